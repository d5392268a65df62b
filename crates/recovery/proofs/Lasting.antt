-- Messages in what an image opens to.
use Rattle.std.proofs.Common.{ℕ, IfOk, List, ◌↔◌}
use Rattle.mailbox.specs.Values.{Item}
use Rattle.centre_core.specs.State.{State}
use Rattle.centre_core.proofs.MailLaws.{none_lost, none_lost_made}
use Rattle.std.specs.List.{Contains}
use Rattle.recovery.specs.Lasting.{Lacks, NoneLostMadeOnDisk, NoneLostOnDisk}
use Rattle.recovery.specs.Opens.{opens}
use Rattle.recovery.specs.OpensTo.{OpensTo}

-- what is so of the state that an image opens to is so of what it opens to
in_image : {A : Type 0} (s : State) (image : List (List ℕ)) (m : Item) (P : Type 0) → OpensTo A s image → ((¬ Contains s.mail.items m) ↔ P) → IfOk (opens A image) (λ opening. Lacks opening m ↔ P)
in_image s image m P holds is = rw holds.opens (rw holds.same is)

pub none_lost_on_disk : {A : Type 0} → NoneLostOnDisk A
none_lost_on_disk {A} s state cs m image is here holds = in_image (_) image m (_) holds (none_lost {A = A} s state cs m is here)

pub none_lost_made_on_disk : {A : Type 0} → NoneLostMadeOnDisk A
none_lost_made_on_disk {A} s state bs c cs m image ok e holds = in_image (_) image m (_) holds (none_lost_made {A = A} s state bs c cs m ok e)
