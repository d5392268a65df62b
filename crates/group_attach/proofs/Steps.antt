-- The two loops over the items of a group PDU, one step further.
use Rattle.std.proofs.Common.{◌≡◌, ℕ, ◌+◌, ◌<◌, Bool, List, length, take, get_or, ap, sym, ◌∙◌}
use Rattle.std.specs.Option.{is_some}
use Rattle.std.specs.List.{fold}
use Rattle.std.specs.FinMap as finite
use Rattle.std.proofs.lemmas.List.Sums.{fold_more}
use Rattle.mm_pdus.specs.declared.group.GroupUp.{GroupUp}
use Rattle.registration.specs.Registered.{Registered}
use Rattle.group_attach.specs.Attached.{Attached, of_radio}
use Rattle.group_attach.specs.Applied.{changed_by}
use Rattle.group_attach.specs.Inside.Counted.{group_of, attached_after, attached_to_after, counted}
use Rattle.group_attach.proofs.Counting.{attached_is, count_is}

pub attached_more : (s : Registered) (itsi gtsi : ℕ) (m : Attached) (items : List GroupUp) (i : ℕ) (item : GroupUp) (before : Bool)
    → i < length items → item ≡ get_or items i item → before ≡ is_some (finite.get (fold (changed_by s itsi) m (take i items)) (itsi, gtsi))
    → attached_to_after s itsi gtsi before item ≡ is_some (finite.get (fold (changed_by s itsi) m (take (i + 1) items)) (itsi, gtsi))
attached_more s itsi gtsi m items i item before lt read so_far =
    ap (λ b. attached_to_after s itsi gtsi b item) so_far
    ∙ attached_is s itsi gtsi (fold (changed_by s itsi) m (take i items)) item
    ∙ ap (λ n. is_some (finite.get n (itsi, gtsi))) (ap (changed_by s itsi (fold (changed_by s itsi) m (take i items))) read ∙ sym (fold_more (changed_by s itsi) m items i item lt))

pub counted_more : (s : Registered) (itsi : ℕ) (m : Attached) (items : List GroupUp) (i : ℕ) (item : GroupUp) (count : ℕ) (before : Bool)
    → i < length items → item ≡ get_or items i item
    → count ≡ finite.len (of_radio (fold (changed_by s itsi) m (take i items)) itsi)
    → before ≡ is_some (finite.get (fold (changed_by s itsi) m (take i items)) (itsi, group_of itsi item))
    → counted count before (attached_after s itsi before item) ≡ finite.len (of_radio (fold (changed_by s itsi) m (take (i + 1) items)) itsi)
counted_more s itsi m items i item count before lt read so_far had =
    (λ j. counted (so_far j) (had j) (attached_after s itsi (had j) item))
    ∙ sym (count_is s itsi (fold (changed_by s itsi) m (take i items)) item)
    ∙ ap (λ n. finite.len (of_radio n itsi)) (ap (changed_by s itsi (fold (changed_by s itsi) m (take i items))) read ∙ sym (fold_more (changed_by s itsi) m items i item lt))
