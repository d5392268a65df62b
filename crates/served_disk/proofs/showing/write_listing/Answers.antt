use Rattle.std.proofs.Common.{rules, inr, refl}
use Rattle.desk.specs.declared.outage.Outage.TheVariants.{Memory}
use Rattle.listings.specs.Texts.{listing_text}
use Rattle.console.specs.declared.answer.Answer.TheVariants as answer
use Rattle.served_disk.proofs.GivesWay.{no_line, no_line_is_a_list, written_first, written_over}
use Rattle.served_disk.proofs.showing.write_listing.Goals as goal

pub returns-then-is_ok : goal.returns-then-is_ok
returns-then-is_ok g c = record {
  given = answer.Listed (listing_text c.args.register.now c.args.listing.now);
  answers = (c.args.register.now, (refl, refl), refl);
  written = written_first c.print_listing.result _ _ (listing_text c.args.register.now c.args.listing.now) c.requires.empty (search rules) c.print_listing.ensures.ok;
  trouble = refl;
}

pub returns : goal.returns
returns g c = record {
  given = answer.QueryOutage 1 Memory;
  answers = (
    refl,
    inr (
      refl,
      no_line_is_a_list c.args.listing.now (no_line c.print_listing.result _ _ _ c.requires.room (search rules) (search rules) c.print_listing.ensures.line),
      (c.args.register.now, (refl, refl)),
    ),
  );
  written = written_over c.print_listing.result c.print_answer.result c.unwrap.result _ _ _ _ c.requires.empty (search rules) c.print_listing.ensures.err c.unwrap.ensures c.print_answer.ensures.ok;
  trouble = refl;
}
