-- Each answer of a run was durable before it was sent.
use Rattle.std.specs.Prelude.{◌==◌, Some, slice_get}
use Rattle.std.specs.List.{AllByRecursion}
use Rattle.std.specs.declared.alloc.Global.{Global}
use Rattle.std.proofs.Common.{◌≡◌, ◌⊎◌, ℕ, ◌+◌, ◌≤◌, inl, inr, Bool, true, false, cond, List, [], ◌∷◌, ◌++◌, length, take, drop, refl, ap, sym, ◌∙◌, subst}
use Rattle.std.proofs.lemmas.List.{append-nil, take-append-drop, take-append-le}
use mathlib.Core.List.{IsPrefix}
use Rattle.base.proofs.Lists.{some_beside}
use Rattle.sector_disk.specs.Disk.{IsSound, View}
use Rattle.sector_disk.specs.Run.{LeavesOnly}
use Rattle.centre_core.specs.Asked.{Asked}
use Rattle.centre_core.specs.State.{State}
use Rattle.recovery.specs.declared.outcome.Outcome.{Outcome}
use Rattle.answers.specs.declared.channel.AnswerSender.{AnswerSender}
use Rattle.answers.specs.Views.{sent_of}
use Rattle.snapshots.proofs.Prefixes.{prefix_trans}
use Rattle.recovery.specs.declared.fault.StoreFault.TheVariants.{Broken}
use Rattle.flusher.specs.declared.decision.Decision.{Decision}
use Rattle.flusher.specs.declared.decision.Decision.TheVariants as decision
use Rattle.flusher.specs.Stages.{Sent, sent_by, sent_to_all}
use Rattle.flusher.specs.Answerings.{answers_to}
use Rattle.flusher.specs.Borne.{AreBorneOut, IsBorneAt, IsDecisionAfter}
use Rattle.flusher.specs.Lasting.{AreLasting, no_more, onward}
use Rattle.flusher.specs.Rounds.{IsRound}
use Rattle.flusher.specs.Served.{AreServedBy, IsSettled, decision_by}
use Rattle.flusher.specs.Shared.{commands_among}
use Rattle.flusher.specs.Since.{AreAllDurable, IsKeptSince, WasDurable}
use Rattle.flusher.specs.Stored.{IsStoredFor, OpensBetween}
use Rattle.flusher.specs.View.{FlusherView, RoundProgress, progress_of}
use Rattle.flusher.proofs.Between.{now_between, rounds_longer}
use Rattle.flusher.proofs.Borne.{sent_first}
use Rattle.flusher.proofs.Lasting.{rounds_of}

abbrev G : Type 0
G = Asked Global

-- ---- lists of answers

module _ (P : Sent → Type 0) where
  all_joined : (xs ys : List Sent) → AllByRecursion P xs → AllByRecursion P ys → AllByRecursion P (xs ++ ys)
  all_joined [] ys h k = k
  all_joined (x ∷ xs) ys h k = (h.0, all_joined xs ys h.1 k)

  all_first : (xs ys : List Sent) → AllByRecursion P (xs ++ ys) → AllByRecursion P xs
  all_first [] ys h = tt
  all_first (x ∷ xs) ys h = (h.0, all_first xs ys h.1)

  pub all_prefix : (xs ys : List Sent) → IsPrefix xs ys → AllByRecursion P ys → AllByRecursion P xs
  all_prefix xs ys p h = all_first xs p.0 (subst (λ l. AllByRecursion P l) (sym p.1) h)

  all_to : (s : ℕ) (xs : List Sent) → AllByRecursion P xs → AllByRecursion P (answers_to s xs)
  all_to s [] h = tt
  all_to s (x ∷ xs) h = by (x.command.station == s) (all_to s xs h.1)
    where
      by : (b : Bool) → AllByRecursion P (answers_to s xs) → AllByRecursion P (cond b (x ∷ answers_to s xs) (answers_to s xs))
      by true rest = (h.0, rest)
      by false rest = rest

all_weaker : (P Q : Sent → Type 0) (xs : List Sent) → ((x : Sent) → P x → Q x) → AllByRecursion P xs → AllByRecursion Q xs
all_weaker P Q [] to h = tt
all_weaker P Q (x ∷ xs) to h = (to x h.0, all_weaker P Q xs to h.1)

-- ---- the moment of each answer of a round

module _ (t : ℕ) where
  abbrev IsAt : Sent → Type 0
  IsAt x = x.moment ≡ t

  moments_by : (published : List G) (all : Bool) (cs : List G) (os : List (Outcome Global)) → AllByRecursion IsAt (sent_by t published all cs os)
  moments_by published all [] os = tt
  moments_by published all (c ∷ cs) [] = tt
  moments_by published all (c ∷ cs) (o ∷ os) = (refl, moments_by published all cs os)

  moments_alike : (published : List G) (d : Decision) (cs : List G) → AllByRecursion IsAt (sent_to_all t published d cs)
  moments_alike published d [] = tt
  moments_alike published d (c ∷ cs) = (refl, moments_alike published d cs)

  moments_served : {D : Type 0} (base : State) (f g : RoundProgress D) (commands : List G) (answers : List Sent) (b : Bool) → AreServedBy base t f g commands answers b → AllByRecursion IsAt answers
  moments_served base f g commands answers true h = subst (λ l. AllByRecursion IsAt l) (sym h.each) (moments_alike g.published (decision.Fault Broken) commands)
  moments_served base f g commands answers false h = elim h [
    | inl done ↦ subst (λ l. AllByRecursion IsAt l) (sym done.each) (moments_by g.published done.all commands done.outcomes)
    | inr rest ↦ elim rest [
      | inl refused ↦ subst (λ l. AllByRecursion IsAt l) (sym refused.each) (moments_alike g.published (decision_by refused.fault) commands)
      | inr late ↦ subst (λ l. AllByRecursion IsAt l) (sym late.each) (moments_alike g.published decision.NoMemory commands)
    ]
  ]

module _ {D : Type 0} (view : D → View) (base : State) where
  -- what was durable at the end of a round is kept from then on, and so is each prefix of it
  kept_since : (g h : FlusherView D) (n : ℕ) → IsPrefix g.durable h.durable → LeavesOnly (view g.store.disk) (view h.store.disk) (OpensBetween base g h)
      → IsKeptSince view base h (view g.store.disk).moment (take n g.durable)
  kept_since g h n longer leaves =
      let first : IsPrefix (take n g.durable) g.durable = (drop n g.durable, take-append-drop n g.durable) in
      record {
        durable = prefix_trans (take n g.durable) g.durable h.durable first longer;
        earlier = leaves.later;
        since = λ image left. elim (leaves.each image left) [
          | inl q ↦ inl (q.0, prefix_trans (take n g.durable) g.durable q.0 first q.1, q.2, q.3)
          | inr q ↦ inr q
        ];
      }

  module _ (g h : FlusherView D) (longer : IsPrefix g.durable h.durable) (leaves : LeavesOnly (view g.store.disk) (view h.store.disk) (OpensBetween base g h)) where
    -- an answer that was sent at the end of a round
    one_durable : (x : Sent) (place : ℕ) → place ≤ length g.durable → IsBorneAt base g.durable place x → x.moment ≡ (view g.store.disk).moment → WasDurable view base h x
    one_durable x place le borne at =
        let same : take place g.durable ≡ take place h.durable = sym (take-append-le place g.durable longer.0 le) ∙ ap (take place) longer.1 in (
          place,
          subst (λ l. IsDecisionAfter base l x.command x.decision) same borne,
          subst (λ (q : ℕ × List G). IsKeptSince view base h q.0 q.1) (λ j. (sym at j, same j)) (kept_since g h place longer leaves),
        )

    -- each answer was, or was sent at that moment
    each_durable : (low : ℕ) (xs : List Sent) → AreBorneOut base g.durable low xs →
        AllByRecursion (λ x. WasDurable view base h x ⊎ (x.moment ≡ (view g.store.disk).moment)) xs → AllByRecursion (WasDurable view base h) xs
    each_durable low [] borne each = tt
    each_durable low (x ∷ xs) borne each = (
      elim each.0 [ inl was ↦ was | inr at ↦ one_durable x borne.0 borne.2 borne.3 at ],
      each_durable borne.0 xs borne.4 each.1,
    )

  round_durable : (f g h : FlusherView D) → IsRound view base f g → IsSettled base g → IsPrefix g.durable h.durable → LeavesOnly (view g.store.disk) (view h.store.disk) (OpensBetween base g h)
      → AreAllDurable view base h f.senders → AreAllDurable view base h g.senders
  round_durable f g h r settled longer leaves each k b there =
      let t = (view g.store.disk).moment in
      let answers = r.served.answers in
      let was = some_beside f.senders g.senders k b r.served.answered.count there in
      let a = was.0 in
      let mine : List Sent = answers_to (k + 1) answers in
      let Either : Sent → Type 0 = λ x. WasDurable view base h x ⊎ (x.moment ≡ t) in
      let old : AllByRecursion Either (sent_of a.pass) = all_weaker (WasDurable view base h) Either (sent_of a.pass) (λ x d. inl d) (each k a was.1) in
      let at : AllByRecursion (IsAt t) answers = moments_served t base (progress_of f) (progress_of g) (commands_among r.popped) answers f.store.broken r.served.served in
      let new : AllByRecursion Either mine = all_weaker (IsAt t) Either mine (λ x e. inr e) (all_to (IsAt t) (k + 1) answers at) in
      let first = sent_first (sent_of a.pass) (sent_of b.pass) mine a.gone b.gone (r.served.answered.each k a b was.1 there).1 in
      each_durable g h longer leaves 0 (sent_of b.pass) (settled.sent k b there)
      (all_prefix Either (sent_of b.pass) (sent_of a.pass ++ mine) first (all_joined Either (sent_of a.pass) mine old new))

  -- each answer that was sent in one round
  pub last_durable : (f g : FlusherView D) → IsRound view base f g → IsSettled base g → ((view g.store.disk).honest → IsSound (view g.store.disk)) → IsStoredFor view base g
      → AreAllDurable view base g f.senders → AreAllDurable view base g g.senders
  last_durable f g r settled sound kept = round_durable f g g r settled ([], append-nil g.durable) (now_between view base g sound settled.made kept)

  -- each answer that was sent in these rounds
  pub run_durable : (f h : FlusherView D) → AreLasting view base f h → AreAllDurable view base h f.senders → AreAllDurable view base h h.senders
  run_durable f h (no_more x) each = each
  run_durable f h (onward x g y r settled keeps since rest) each =
      run_durable g y rest (round_durable x g y r settled (rounds_longer view base g y (rounds_of view base g y rest)) since each)
