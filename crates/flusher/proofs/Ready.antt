-- From a commit to what is durable then.
use Rattle.std.specs.declared.alloc.Global.{Global}
use Rattle.std.specs.declared.sync.Arc.{Arc}
use Rattle.std.proofs.Common.{◌≡◌, ℕ, Bool, true, false, true≢false, cond, List, [], ◌++◌, ap, sym, ◌∙◌, subst}
use Rattle.std.proofs.lemmas.List.{append-nil}
use mathlib.Core.List.{IsPrefix}
use Rattle.centre_core.specs.Asked.{Asked}
use Rattle.centre_core.specs.State.{State}
use Rattle.centre_core.specs.History.{after}
use Rattle.centre_core.specs.Histories.{IsHistory}
use Rattle.answers.specs.declared.channel.AnswerSender.{AnswerSender}
use Rattle.recovery.specs.Lives.{StoreView}
use Rattle.recovery.specs.Outcomes.{IsAnswered}
use Rattle.recovery.specs.declared.outcome.Outcome.{Outcome}
use Rattle.recovery.specs.declared.fault.StoreFault.{StoreFault}
use Rattle.recovery.specs.declared.fault.StoreFault.TheVariants.{BadGeometry, Broken, Damaged, DiskFault, EpochsUsedUp, NoMemory, Unformatted, Unready}
use Rattle.snapshots.proofs.Prefixes.{prefix_self}
use Rattle.flusher.specs.Shared.{commands_in}
use Rattle.flusher.specs.Stages.{Sent}
use Rattle.flusher.specs.declared.committing.Attempts.{Attempts}
use Rattle.flusher.specs.Batches.{HasBroken, IsDone, IsRefusedBy, accepted_by}
use Rattle.flusher.specs.Served.{HavePublished}
use Rattle.flusher.proofs.Decided.{comes}

abbrev G : Type 0
G = Asked Global

-- all that is durable was appended
pub all_appended : (appended : List G) (unpublished : List (Arc G Global)) → unpublished ≡ [] → appended ++ commands_in unpublished ≡ appended
all_appended appended unpublished none = ap (λ l. appended ++ commands_in l) none ∙ append-nil appended

module _ {D : Type 0} (base : State) (old new : StoreView Global D) (log cmds : List G) (os : List (Outcome Global)) (history : IsHistory base log)
    (made : old.register ≡ after base log) (done : IsDone cmds old new os) where
  pub made_on : new.register ≡ after base (log ++ accepted_by cmds os)
  made_on = let h = comes base old.register new.register log cmds os history made done.answered in h.state ∙ ap (λ l. after base (log ++ l)) (sym h.accepted)

  pub history_on : IsHistory base (log ++ accepted_by cmds os)
  history_on = let h = comes base old.register new.register log cmds os history made done.answered in subst (λ l. IsHistory base (log ++ l)) (sym h.accepted) h.history

  pub answered_on : (appended kept : List G) → appended ≡ log → kept ≡ accepted_by cmds os → IsAnswered (after base appended) cmds (after base (appended ++ kept)) os
  answered_on appended kept same is =
      subst (λ (q : State × State). IsAnswered q.0 cmds q.1 os) (λ j. ((made ∙ ap (after base) (sym same)) j, (made_on ∙ (λ i. after base (sym same i ++ sym is i))) j)) done.answered

begins : (all : Bool) (before durable kept : List G) → durable ≡ before ++ kept → IsPrefix (cond all durable before) durable
begins true before durable kept is = prefix_self durable
begins false before durable kept is = (kept, sym is)

pub published_begins : (t was now : ℕ) (before durable list cmds kept : List G) (os : List (Outcome Global))
    (xs ys : List (AnswerSender Sent)) → durable ≡ before ++ kept → HavePublished t was now before durable list cmds os xs ys → IsPrefix list durable
published_begins t was now before durable list cmds kept os xs ys is h = subst (λ l. IsPrefix l durable) (sym h.published) (begins h.all before durable kept is)

module _ {D : Type 0} (cmds : List G) (old new : StoreView Global D) where
  pub refused_made : (f : StoreFault) (was now : Attempts) → IsRefusedBy cmds old new f was now → new.broken ≡ false → new.register ≡ old.register
  refused_made DiskFault was now h up = absurd (true≢false (sym h.broken ∙ up))
  refused_made NoMemory was now h up = h.0.register
  refused_made EpochsUsedUp was now h up = ap (λ (s : StoreView Global D). s.register) h.0
  refused_made Broken was now h up = absurd h
  refused_made Unready was now h up = absurd h
  refused_made Unformatted was now h up = absurd h
  refused_made BadGeometry was now h up = absurd h
  refused_made (Damaged at) was now h up = absurd h

  pub refused_broken : (f : StoreFault) (was now : Attempts) → old.broken ≡ false → IsRefusedBy cmds old new f was now → new.broken ≡ true → HasBroken cmds old new
  refused_broken DiskFault was now up h down = h
  refused_broken NoMemory was now up h down = absurd (true≢false (sym down ∙ h.0.sound))
  refused_broken EpochsUsedUp was now up h down = absurd (true≢false (sym down ∙ ap (λ (s : StoreView Global D). s.broken) h.0 ∙ up))
  refused_broken Broken was now up h down = absurd h
  refused_broken Unready was now up h down = absurd h
  refused_broken Unformatted was now up h down = absurd h
  refused_broken BadGeometry was now up h down = absurd h
  refused_broken (Damaged at) was now up h down = absurd h
