-- The replies to a batch, as a list of accepted commands bears them out.
use Rattle.std.specs.Prelude.{Some}
use Rattle.std.specs.List.{AllByRecursion}
use Rattle.std.proofs.Common.{◌≡◌, ◌+◌, inl, inr, Bool, true, false, cond, List, [], ◌∷◌, ◌++◌, length, refl, ap, sym, ◌∙◌, subst, arith, true≢false, append_assoc, length-append}
use Rattle.std.proofs.lemmas.List.{take-append-le, take_at, take_all, append-nil}
use Rattle.centre_core.specs.declared.command.Command.{Command}
use Rattle.centre_core.specs.declared.reply.Reply.{Reply}
use Rattle.centre_core.specs.declared.reply.Reply.TheVariants.{Accepted, Kept, Refused}
use Rattle.centre_core.specs.State.{State}
use Rattle.centre_core.specs.Step.{last_at}
use Rattle.centre_core.specs.History.{is_acceptance, next, after}
use Rattle.centre_core.specs.Histories.{IsHistory}
use Rattle.centre_core.specs.InTurn.{reply_to, last_of, Replied}
use Rattle.centre_core.specs.Batches.{with_replies, taken}
use Rattle.centre_core.proofs.RepliesSay.{replies_say}
use Rattle.centre_core.proofs.HistoryLaws.{counted}
use Rattle.centre_core.proofs.InTurnLaws.{after-append, history-append, kept_is_there, lands_more, left_more}
use Rattle.schedule.specs.World.{Entry}
use Rattle.schedule.specs.Clauses.{IsBorneOut}
use Rattle.schedule.specs.RoundParts.{BorneOutByLonger, BatchesAreBorneOut}
use Rattle.schedule.proofs.Lists.{get_last}

module _ {A : Type 0} where
  pub borne_more : BorneOutByLonger A
  borne_more base l m (c, Accepted n p) h = lands_more base l m c n p h
  borne_more base l m (c, Kept n p) h = elim h [ inl q ↦ inl (left_more base l m c.station (last_of c n p) q) | inr q ↦ inr q ]
  borne_more base l m (c, Refused r) h = (
    h.0,
    let short = h.1 in omega (arith, length-append l m),
    subst (λ t. reply_to (after base t) c ≡ Refused r) (sym (take-append-le h.0 l m h.1)) h.2,
  )

  -- the reply to one command after a list
  reply_borne : (base s : State) (l : List (Command A)) (c : Command A) → IsHistory base l → s ≡ after base l → (r : Reply A) → reply_to s c ≡ r →
      Replied s c (next s c) r → IsBorneOut base (l ++ c ∷ []) (c, r)
  reply_borne base s l c a at (Accepted n p) is says =
      let count : (after base l).count ≡ base.count + length l = counted base l a in
      let same : s.count ≡ (after base l).count = ap (λ (t : State). t.count) at in
      record {
        place = length l;
        numbered = let m = says.1 in omega arith;
        is_there = get_last l c;
        replied = subst (λ t. reply_to (after base t) c ≡ Accepted n p) (sym (take_at l (c ∷ []) (length l) refl)) (subst (λ t. reply_to t c ≡ Accepted n p) at is);
      }
  reply_borne base s l c a at (Kept n p) is says =
      let kept : last_at (after base l) c.station ≡ Some (last_of c n p) = subst (λ t. last_at t c.station ≡ Some (last_of c n p)) at says.2 in
      elim (kept_is_there base l a c.station (last_of c n p) says.1 kept) [ inl q ↦ inl (left_more base l (c ∷ []) c.station (last_of c n p) q) | inr q ↦ inr q ]
  reply_borne base s l c a at (Refused r) is says = (
    length l,
    omega (arith, length-append l (c ∷ [])),
    subst (λ t. reply_to (after base t) c ≡ Refused r) (sym (take_at l (c ∷ []) (length l) refl)) (subst (λ t. reply_to t c ≡ Refused r) at is),
  )

  -- a command that is not accepted leaves the list
  reply_alone : (base s : State) (l : List (Command A)) (c : Command A) → IsHistory base l → s ≡ after base l → (r : Reply A) → reply_to s c ≡ r →
      Replied s c (next s c) r → is_acceptance r ≡ false → IsBorneOut base l (c, r)
  reply_alone base s l c a at (Accepted n p) is says not_it = absurd (true≢false not_it)
  reply_alone base s l c a at (Kept n p) is says not_it =
      let kept : last_at (after base l) c.station ≡ Some (last_of c n p) = subst (λ t. last_at t c.station ≡ Some (last_of c n p)) at says.2 in
      kept_is_there base l a c.station (last_of c n p) says.1 kept
  reply_alone base s l c a at (Refused r) is says not_it = (
    length l,
    omega arith,
    subst (λ t. reply_to (after base t) c ≡ Refused r) (sym (take_all (length l) l (omega arith))) (subst (λ t. reply_to t c ≡ Refused r) at is),
  )

  stays_by : (s : State) (c : Command A) (r : Reply A) → Replied s c (next s c) r → is_acceptance r ≡ false → next s c ≡ s
  stays_by s c (Accepted n p) says not_it = absurd (true≢false not_it)
  stays_by s c (Kept n p) says not_it = says.0
  stays_by s c (Refused r) says not_it = says

  -- a command that is not accepted changes nothing
  pub not_accepted : (s : State) (c : Command A) → is_acceptance (reply_to s c) ≡ false → next s c ≡ s
  not_accepted s c not_it = stays_by s c (reply_to s c) (replies_say A s c) not_it

  -- what a batch comes to: the accepted commands go on the list, and each reply is borne out by it
  abbrev pub IsWell : State → List (Command A) → List (Entry A) → Type 0
  IsWell base m xs = IsHistory base m × AllByRecursion (IsBorneOut base m) xs

  batch_by : (b : Bool) (cs : List (Command A)) (base s : State) (l m : List (Command A)) (c : Command A) → is_acceptance (reply_to s c) ≡ b
      → ((s' : State) (l' : List (Command A)) → IsHistory base l' → s' ≡ after base l' → m ≡ l' ++ taken s' cs → IsWell base m (with_replies A s' cs))
      → IsHistory base l → s ≡ after base l → m ≡ l ++ cond b (c ∷ taken (next s c) cs) (taken (next s c) cs) → IsWell base m ((c, reply_to s c) ∷ with_replies A (next s c) cs)
  batch_by true cs base s l m c is more a at split =
      let l' = l ++ c ∷ [] in
      let took : IsHistory base l' = history-append base l (c ∷ []) a (subst (λ t. is_acceptance (reply_to t c) ≡ true) at is, tt) in
      let goes : next s c ≡ after base l' = ap (λ t. next t c) at ∙ sym (after-append base l (c ∷ [])) in
      let parts : m ≡ l' ++ taken (next s c) cs = split ∙ sym (append_assoc l (c ∷ []) (taken (next s c) cs)) in
      let rest = more (next s c) l' took goes parts in
      let here = borne_more base l' (taken (next s c) cs) (c, reply_to s c) (reply_borne base s l c a at (reply_to s c) refl (replies_say A s c)) in
      (rest.0, (subst (λ t. IsBorneOut base t (c, reply_to s c)) (sym parts) here, rest.1))
  batch_by false cs base s l m c is more a at split =
      let parts : m ≡ l ++ taken (next s c) cs = split in
      let rest = more (next s c) l a (not_accepted s c is ∙ at) parts in
      let here = borne_more base l (taken (next s c) cs) (c, reply_to s c) (reply_alone base s l c a at (reply_to s c) refl (replies_say A s c) is) in
      (rest.0, (subst (λ t. IsBorneOut base t (c, reply_to s c)) (sym parts) here, rest.1))

  pub batch_well : (cs : List (Command A)) (base s : State) (l m : List (Command A)) → IsHistory base l → s ≡ after base l → m ≡ l ++ taken s cs → IsWell base m (with_replies A s cs)
  batch_well [] base s l m a at split = (subst (λ t. IsHistory base t) (sym (split ∙ append-nil l)) a, tt)
  batch_well (c ∷ cs) base s l m a at split =
      batch_by (is_acceptance (reply_to s c)) cs base s l m c refl (λ s' l' a' at' split'. batch_well cs base s' l' m a' at' split') a at split

  pub batches_borne : BatchesAreBorneOut A
  batches_borne base l cs a = batch_well cs base (after base l) l (l ++ taken (after base l) cs) a refl refl
