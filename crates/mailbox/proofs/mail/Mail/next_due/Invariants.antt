use Rattle.mailbox.proofs.mail.Mail.next_due.Given as goal

abbrev pub ghosts-next_due_from : goal.ghosts-next_due_from
ghosts-next_due_from g a = record { name = a.blank.name; parts = a.blank.parts }
