use Rattle.mailbox.proofs.order.Order.renew.Given as goal

abbrev pub ghosts-renew_from : goal.ghosts-renew_from
ghosts-renew_from g a = record { name = a.blank.name; parts = a.blank.parts }
