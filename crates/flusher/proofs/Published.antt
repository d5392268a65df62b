-- What was committed and then published, or not.
use Rattle.std.specs.Prelude.{MatchBool}
use Rattle.std.specs.declared.alloc.Global.{Global}
use Rattle.std.proofs.Common.{◌≡◌, ◌<◌, ◌⊎◌, inl, inr, Bool, true, false, true≢false, cond, List, ◌++◌, length, take, refl, ap, sym, ◌∙◌, subst, arith, length-append}
use mathlib.Core.List.{IsPrefix}
use Rattle.centre_core.specs.Asked.{Asked}
use Rattle.centre_core.specs.State.{State}
use Rattle.centre_core.specs.History.{after}
use Rattle.centre_core.specs.Batches.{taken}
use Rattle.recovery.specs.declared.outcome.Outcome.{Outcome}
use Rattle.snapshots.proofs.Prefixes.{prefix_self}
use Rattle.flusher.specs.Stages.{BearsOutDecisions}
use Rattle.flusher.specs.Batches.{accepted_by}
use Rattle.flusher.proofs.Decided.{Comes}

abbrev G : Type 0
G = Asked Global

pub when : (b : Bool) (X Y : Type 0) → MatchBool b X Y → b ≡ true → X
when true X Y h e = h
when false X Y h e = absurd (true≢false (sym e))

pub unless : (b : Bool) (X Y : Type 0) → MatchBool b X Y → b ≡ false → Y
unless true X Y h e = absurd (true≢false e)
unless false X Y h e = h

pub either : (b : Bool) (X Y : Type 0) → MatchBool b X Y → X ⊎ Y
either true X Y h = inl h
either false X Y h = inr h

-- what became durable after a list is published, or nothing of it
pub record Shows (all : Bool) (before kept published durable : List G) : Type 0 where
  pub durable_is : durable ≡ before ++ kept
  pub published_is : published ≡ cond all durable before
  pub some : all ≡ false → length before < length durable

pub shows_by : (all : Bool) (before kept was published durable : List G) → was ≡ before → durable ≡ before ++ kept →
    MatchBool all (published ≡ durable) ((published ≡ was) × (0 < length kept)) → Shows all before kept published durable
shows_by true before kept was published durable same is h = record { durable_is = is; published_is = h; some = λ e. absurd (true≢false e) }
shows_by false before kept was published durable same is h = record {
  durable_is = is;
  published_is = h.0 ∙ same;
  some = λ e. let more = h.1 in omega (arith, ap length is, length-append before kept, more);
}

begins : (all : Bool) (before kept : List G) → IsPrefix (cond all (before ++ kept) before) (before ++ kept)
begins true before kept = prefix_self (before ++ kept)
begins false before kept = (kept, refl)

pub shown_begins : (all : Bool) (before kept published durable : List G) → Shows all before kept published durable → IsPrefix published durable
shown_begins all before kept published durable h =
    subst (λ (q : List G × List G). IsPrefix q.0 q.1) (λ j. ((ap (λ l. cond all l before) (sym h.durable_is) ∙ sym h.published_is) j, sym h.durable_is j)) (begins all before kept)

is_whole : (all : Bool) (before kept published durable : List G) → Shows all before kept published durable → all ≡ true → published ≡ durable
is_whole all before kept published durable h e = h.published_is ∙ ap (λ b. cond b durable before) e

pub borne_by : (base t : State) (before kept published durable cmds : List G) (os : List (Outcome Global)) (all : Bool) →
    Comes base before cmds t os → kept ≡ accepted_by cmds os → Shows all before kept published durable → BearsOutDecisions base published all cmds os
borne_by base t before kept published durable cmds os all h is w =
    let ts = taken (after base before) (take h.reached cmds) in
    let same : durable ≡ before ++ ts = w.durable_is ∙ ap (λ l. before ++ l) (is ∙ h.accepted) in
    h.borne_out published all (λ e. is_whole all before kept published durable w e ∙ same) (subst (IsPrefix published) same (shown_begins all before kept published durable w))
