use Rattle.served_disk.proofs.GivesWay.{shown, shown_listing}
use Rattle.served_disk.proofs.showing.write_shown.Goals as goal

pub returns-in-Ok : goal.returns-in-Ok
returns-in-Ok g c = shown c.args.register.now c.args.line.now c.write_text.new.text.items c.write_text.result c.in-Ok.answer c.in-Ok.ensures c.write_text.ensures

pub returns-in-Err : goal.returns-in-Err
returns-in-Err g c = shown_listing c.args.register.now c.args.line.now c.write_listing.new.text.items c.write_listing.result c.in-Err.listing c.in-Err.ensures c.write_listing.ensures
