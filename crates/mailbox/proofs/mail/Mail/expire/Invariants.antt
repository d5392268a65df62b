use Rattle.mailbox.proofs.mail.Mail.expire.Given as goal

abbrev pub ghosts-expire_from : goal.ghosts-expire_from
ghosts-expire_from g a = record { name = a.blank.name; parts = a.blank.parts }
