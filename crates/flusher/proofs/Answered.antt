-- Answers that were sent.
use Rattle.std.specs.Prelude.{◌⊎◌, ◌==◌, set, slice_get, Some}
use Rattle.std.proofs.lemmas.Bool.Decides.{nat_tests}
use Rattle.std.proofs.Common.{◌≡◌, ◌≢◌, ℕ, zero, suc, ◌+◌, inl, inr, Bool, true, false, cond, List, [], ◌∷◌, ◌++◌, length, refl, ap, sym, ◌∙◌, subst, arith, append_assoc, true≢false}
use Rattle.std.proofs.lemmas.List.{append-nil}
use mathlib.Core.List.{IsPrefix}
use Rattle.base.proofs.Lists.{set_length}
use Rattle.crossbeam_channel.specs.Ends.{sends_on}
use Rattle.answers.specs.declared.channel.AnswerSender.{AnswerSender}
use Rattle.answers.specs.Views.{sent_of}
use Rattle.answers.specs.Sent.{HasSent}
use Rattle.snapshots.proofs.Prefixes.{prefix_self, prefix_longer}
use Rattle.flusher.specs.Stages.{Sent}
use Rattle.flusher.specs.Answerings.{answers_to, HasAnswered, HaveAnswered}

abbrev Line : Type 0
Line = AnswerSender Sent

to-append : (s : ℕ) (xs ys : List Sent) → answers_to s (xs ++ ys) ≡ answers_to s xs ++ answers_to s ys
to-append s [] ys = refl
to-append s (x ∷ xs) ys = by (x.command.station == s) (to-append s xs ys)
  where
    by : (b : Bool) → answers_to s (xs ++ ys) ≡ answers_to s xs ++ answers_to s ys →
        cond b (x ∷ answers_to s (xs ++ ys)) (answers_to s (xs ++ ys)) ≡ cond b (x ∷ answers_to s xs) (answers_to s xs) ++ answers_to s ys
    by true e = ap (λ l. x ∷ l) e
    by false e = e

none_more : (l : List Sent) (b : Bool) → HasAnswered l l b b []
none_more l true = record { kept = λ e. (refl, refl); sent = inr (refl, prefix_self l, prefix_longer l l [] (prefix_self l)) }
none_more l false = record { kept = λ e. absurd (true≢false (sym e)); sent = inl (refl, refl, sym (append-nil l)) }

one_more : (old new : List Sent) (was now : Bool) (x : Sent) → HasSent old was x new now → HasAnswered old new was now (x ∷ [])
one_more old new was now x h = elim h [
  | inl q ↦ record { kept = λ e. absurd (true≢false (sym e ∙ q.0)); sent = inl q }
  | inr q ↦ record {
    kept = λ e. q;
    sent =
        inr (
          q.0,
          subst (IsPrefix old) (sym q.1) (prefix_self old),
          subst (λ l. IsPrefix l (old ++ x ∷ [])) (sym q.1) (prefix_longer old old (x ∷ []) (prefix_self old)),
        );
  }
]

then_more : (a b c : List Sent) (p q r : Bool) (xs ys : List Sent) → HasAnswered a b p q xs → HasAnswered b c q r ys → HasAnswered a c p r (xs ++ ys)
then_more a b c p q r xs ys h k = record {
  kept = λ e. let m = h.kept e in let n = k.kept m.0 in (n.0, n.1 ∙ m.1);
  sent = elim h.sent [
    | inl s ↦ elim k.sent [
      | inl t ↦ inl (s.0, t.1, t.2 ∙ ap (λ l. l ++ ys) s.2 ∙ append_assoc a xs ys)
      | inr t ↦ inr (t.0, prefix_by a b c (xs, sym s.2) t.1, subst (IsPrefix c) (ap (λ l. l ++ ys) s.2 ∙ append_assoc a xs ys) t.2)
    ]
    | inr s ↦ let n = k.kept s.0 in
        inr (
          n.0,
          subst (IsPrefix a) (sym n.1) s.1,
          subst (λ l. IsPrefix l (a ++ (xs ++ ys))) (sym n.1) (subst (IsPrefix b) (append_assoc a xs ys) (prefix_longer b (a ++ xs) ys s.2)),
        )
  ];
}
  where
    prefix_by : (x y z : List Sent) → IsPrefix x y → IsPrefix y z → IsPrefix x z
    prefix_by x y z f g = (f.0 ++ g.0, sym (append_assoc x f.0 g.0) ∙ (ap (λ w. w ++ g.0) f.1 ∙ g.1))

some_at : {X : Type 0} (xs ys : List X) (k : ℕ) (a : X) → length ys ≡ length xs → slice_get xs k ≡ Some a → (b : X) × (slice_get ys k ≡ Some b)
some_at [] ys k a e h = absurd cc
some_at (x ∷ xs) [] k a e h = absurd (omega arith)
some_at (x ∷ xs) (y ∷ ys) zero a e h = (y, refl)
some_at (x ∷ xs) (y ∷ ys) (suc k) a e h = some_at xs ys k a (omega arith) h

-- answers after answers
pub answered_on : (old mid new : List Line) (xs ys : List Sent) → HaveAnswered old xs mid → HaveAnswered mid ys new → HaveAnswered old (xs ++ ys) new
answered_on old mid new xs ys h k = record {
  count = k.count ∙ h.count;
  each = λ i a b at now.
      let m = some_at old mid i a h.count at in
      let f = h.each i a m.0 at m.1 in
      let g = k.each i m.0 b m.1 now in (
        g.0 ∙ f.0,
        subst (HasAnswered (sent_of a.pass) (sent_of b.pass) a.gone b.gone) (sym (to-append (i + 1) xs ys)) (then_more _ _ _ _ _ _ _ _ f.1 g.1),
      );
}

pub none_answered : (old : List Line) → HaveAnswered old [] old
none_answered old = record {
  count = refl;
  each = λ i a b at now. let same : a ≡ b = cc (at, now) in (
    ap (λ (x : Line). sends_on x.channel) (sym same),
    subst (λ (x : Line). HasAnswered (sent_of a.pass) (sent_of x.pass) a.gone x.gone []) same
        (none_more (sent_of a.pass) a.gone),
  );
}

set_cases : {X : Type 0} (xs : List X) (i k : ℕ) (x y : X) → slice_get (set xs i x) k ≡ Some y → ((k ≡ i) × (y ≡ x)) ⊎ ((k ≢ i) × (slice_get xs k ≡ Some y))
set_cases [] i k x y h = absurd cc
set_cases (z ∷ zs) zero zero x y h = inl (refl, cc h)
set_cases (z ∷ zs) zero (suc k) x y h = inr ((λ e. omega (arith, e)), h)
set_cases (z ∷ zs) (suc i) zero x y h = inr ((λ e. omega (arith, e)), h)
set_cases (z ∷ zs) (suc i) (suc k) x y h = elim (set_cases zs i k x y h) [ inl q ↦ inl (ap suc q.0, q.1) | inr q ↦ inr ((λ e. q.0 (let r : k ≡ i = omega (arith, e) in r)), q.1) ]

to_mine : (s : ℕ) (x : Sent) → x.command.station ≡ s → answers_to s (x ∷ []) ≡ x ∷ []
to_mine s x e = ap (λ b. cond b (x ∷ []) []) (let t : (x.command.station == s) ≡ true = grind (arith, nat_tests) in t)

to_other : (s : ℕ) (x : Sent) → x.command.station ≢ s → answers_to s (x ∷ []) ≡ []
to_other s x n = ap (λ b. cond b (x ∷ []) []) (let t : (x.command.station == s) ≡ false = grind (arith, nat_tests) in t)

same_place : (n k i : ℕ) → n ≡ k + 1 → n ≡ i + 1 → k ≡ i
same_place n k i e f = omega (arith, e, f)

-- one answer, at its station's channel
pub one_answered : (old : List Line) (i : ℕ) (was now : Line) (x : Sent) → slice_get old i ≡ Some was → x.command.station ≡ i + 1 →
    sends_on now.channel ≡ sends_on was.channel → HasSent (sent_of was.pass) was.gone x (sent_of now.pass) now.gone
    → HaveAnswered old (x ∷ []) (set old i now)
one_answered old i was now x at mine same h = record {
  count = set_length old i now;
  each = λ k a b here there. elim (set_cases old i k now b there) [
    | inl q ↦
        let is : a ≡ was = cc (here, at, q.0) in (
          ap (λ (l : Line). sends_on l.channel) q.1 ∙ same ∙ ap (λ (l : Line). sends_on l.channel) (sym is),
          subst (HasAnswered (sent_of a.pass) (sent_of b.pass) a.gone b.gone) (sym (to_mine (k + 1) x (mine ∙ ap (λ n. n + 1) (sym q.0))))
              (subst (λ (l : Line). HasAnswered (sent_of l.pass) (sent_of b.pass) l.gone b.gone (x ∷ [])) (sym is)
              (subst (λ (l : Line). HasAnswered (sent_of was.pass) (sent_of l.pass) was.gone l.gone (x ∷ [])) (sym q.1) (one_more _ _ _ _ x h))),
        )
    | inr q ↦
        let is : a ≡ b = cc (here, q.1) in (
          ap (λ (l : Line). sends_on l.channel) (sym is),
          subst (HasAnswered (sent_of a.pass) (sent_of b.pass) a.gone b.gone) (sym (to_other (k + 1) x (λ e. q.0 (same_place _ k i e mine))))
              (subst (λ (l : Line). HasAnswered (sent_of a.pass) (sent_of l.pass) a.gone l.gone []) is (none_more (sent_of a.pass) a.gone)),
        )
  ];
}
