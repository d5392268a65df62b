use Rattle.mailbox.proofs.Sound.{empty_is_mail, more_is_mail, removal_is_mail, post_is_mail, report_is_mail, new_comes_last}
use Rattle.mailbox.proofs.CopiesSound.{group_post_is_mail}
use Rattle.mailbox.proofs.laws.mails.Goals as goal

pub returns-clause-empty : goal.returns-clause-empty
returns-clause-empty c = empty_is_mail

pub returns-clause-more : goal.returns-clause-more
returns-clause-more c = more_is_mail

pub returns-clause-removal : goal.returns-clause-removal
returns-clause-removal c = removal_is_mail

pub returns-clause-post : goal.returns-clause-post
returns-clause-post c = post_is_mail

pub returns-clause-report : goal.returns-clause-report
returns-clause-report c = report_is_mail

pub returns-clause-last : goal.returns-clause-last
returns-clause-last c = new_comes_last

pub returns-clause-group : goal.returns-clause-group
returns-clause-group c = group_post_is_mail
