-- What one accepted command makes of the mail's list.
use Rattle.std.proofs.Common.{◌≡◌, ℕ, zero, suc, ◌+◌, ◌<◌, ◌≤◌, Bool, true, false, cond, List, [], ◌∷◌, ◌++◌, length, get_or, refl, ap, sym, ◌∙◌, subst, inl, inr, arith}
use Rattle.std.specs.Prelude.{not, ◌&&◌, ◌⊎◌}
use Rattle.std.specs.List.{All, filter, Contains}
use Rattle.std.proofs.lemmas.List.Elements.{All-nil, All-cons, All-filter, All-contains, All-contains_itself, filter_passes, Contains-append_left, Contains-append_right, Contains-append_cases}
use mathlib.Core.Bool.{false≢true}
use Rattle.base.proofs.Bools.{and_false}
use Rattle.mailbox.specs.declared.key.Kind.{Kind}
use Rattle.mailbox.specs.declared.key.Kind.TheVariants.{Message, Report}
use Rattle.mailbox.specs.Values.{Item}
use Rattle.mailbox.specs.Item.{is_message, is_message_kind, same_kind}

contains_first : {X : Type 0} (xs : List X) (m : X) → Contains (m ∷ xs) m
contains_first xs m = (0, omega arith, refl)

contains_later : {X : Type 0} (x : X) (xs : List X) (m : X) → Contains xs m → Contains (x ∷ xs) m
contains_later x xs m (k, below, is) = (suc k, omega arith, is)

first_or_later : {X : Type 0} (x : X) (xs : List X) (m : X) (k : ℕ) → k < suc (length xs) → get_or (x ∷ xs) k m ≡ m → (x ≡ m) ⊎ Contains xs m
first_or_later x xs m zero below is = inl is
first_or_later x xs m (suc k) below is = inr (k, omega arith, is)

contains_if : {X : Type 0} (b : Bool) (x : X) (ys : List X) (m : X) → Contains ys m → Contains (cond b (x ∷ ys) ys) m
contains_if true x ys m h = contains_later x ys m h
contains_if false x ys m h = h

-- an element that passes stays
pub contains_filter : {X : Type 0} (p : X → Bool) (xs : List X) (m : X) → Contains xs m → p m ≡ true → Contains (filter p xs) m
contains_filter p [] m (k, below, is) passes = absurd (omega arith)
contains_filter p (x ∷ xs) m (k, below, is) passes =
    elim (first_or_later x xs m k below is) [
      | inl e ↦ subst (λ b. Contains (cond b (x ∷ filter p xs) (filter p xs)) m) (sym (ap p e ∙ passes)) (subst (λ y. Contains (y ∷ filter p xs) m) (sym e) (contains_first (filter p xs) m))
      | inr h ↦ contains_if (p x) x (filter p xs) m (contains_filter p xs m h passes)
    ]

-- what is left of a filter was there
pub contains_from_filter : {X : Type 0} (p : X → Bool) (xs : List X) (m : X) → Contains (filter p xs) m → Contains xs m
contains_from_filter p xs m h = All-contains (Contains xs) (filter p xs) m (All-filter p (Contains xs) xs (All-contains_itself xs)) h

pub passes_filter : {X : Type 0} (p : X → Bool) (xs : List X) (m : X) → Contains (filter p xs) m → p m ≡ true
passes_filter p xs m h = All-contains (λ x. p x ≡ true) (filter p xs) m (filter_passes p xs) h

-- xs became ys by a command that ends the messages that pass `ends` and makes those in `makes`. Before it so many commands were accepted.
pub record Changed (xs ys : List Item) (count : ℕ) (ends : Item → Bool) (makes : List Item) : Type 0 where
  pub unended : (m : Item) → is_message m ≡ true → Contains xs m → ends m ≡ false → Contains ys m
  pub gone : (m : Item) → is_message m ≡ true → m.number ≤ count → ends m ≡ true → Contains ys m → ⊥
  pub old : (m : Item) → m.number ≤ count → Contains ys m → Contains xs m
  pub made : (m : Item) → Contains makes m → (is_message m ≡ true) × Contains ys m

none : (m : Item) → Contains [] m → ⊥
none m (k, below, is) = omega arith

pub changed_none : (xs : List Item) (count : ℕ) → Changed xs xs count (λ _. false) []
changed_none xs count = record {
  unended = λ m is here stays. here;
  gone = λ m is low ends here. false≢true ends;
  old = λ m low here. here;
  made = λ m e. absurd (none m e);
}

not_true : (b : Bool) → not b ≡ true → b ≡ true → ⊥
not_true true e f = false≢true e
not_true false e f = false≢true f

-- a filter that drops just the messages that end
pub changed_by_filter : (xs : List Item) (count : ℕ) (ends test : Item → Bool) → ((m : Item) → is_message m ≡ true → test m ≡ ends m) → Changed xs (filter (λ w. not (test w)) xs) count ends []
changed_by_filter xs count ends test agree = record {
  unended = λ m is here stays. contains_filter (λ w. not (test w)) xs m here (ap not (agree m is ∙ stays));
  gone = λ m is low ends_it here. not_true (test m) (passes_filter (λ w. not (test w)) xs m here) (agree m is ∙ ends_it);
  old = λ m low here. contains_from_filter (λ w. not (test w)) xs m here;
  made = λ m e. absurd (none m e);
}

-- items have the command's number
abbrev pub AreNew : ℕ → List Item → Type 0
AreNew count ws = All (λ w. w.number ≡ count + 1) ws

too_great : (ws : List Item) (count : ℕ) (m : Item) → AreNew count ws → Contains ws m → m.number ≤ count → ⊥
too_great ws count m new here low = let n : m.number ≡ count + 1 = All-contains (λ w. w.number ≡ count + 1) ws m new here in omega (arith, n, low)

old_one : (ys ws : List Item) (count : ℕ) (m : Item) → AreNew count ws → m.number ≤ count → Contains (ys ++ ws) m → Contains ys m
old_one ys ws count m new low here = elim (Contains-append_cases ys ws m here) [ inl h ↦ h | inr h ↦ absurd (too_great ws count m new h low) ]

just_one : (count : ℕ) (w : Item) → w.number ≡ count + 1 → AreNew count (w ∷ [])
just_one count w new = All-cons (λ o. o.number ≡ count + 1) w [] new (All-nil (λ o. o.number ≡ count + 1))

-- more items at the end: a report item, or the messages that the command makes
pub changed_by_report : (xs ys : List Item) (count : ℕ) (ends : Item → Bool) (w : Item) → w.number ≡ count + 1 → Changed xs ys count ends [] → Changed xs (ys ++ w ∷ []) count ends []
changed_by_report xs ys count ends w new h = record {
  unended = λ m is here stays. Contains-append_left ys (w ∷ []) m (h.unended m is here stays);
  gone = λ m is low ends_it here. h.gone m is low ends_it (old_one ys (w ∷ []) count m (just_one count w new) low here);
  old = λ m low here. h.old m low (old_one ys (w ∷ []) count m (just_one count w new) low here);
  made = λ m e. absurd (none m e);
}

pub changed_by_messages : (xs ws : List Item) (count : ℕ) → AreNew count ws → All (λ w. is_message w ≡ true) ws → Changed xs (xs ++ ws) count (λ _. false) ws
changed_by_messages xs ws count new are = record {
  unended = λ m is here stays. Contains-append_left xs ws m here;
  gone = λ m is low ends_it here. false≢true ends_it;
  old = λ m low here. old_one xs ws count m new low here;
  made = λ m e. (All-contains (λ w. is_message w ≡ true) ws m are e, Contains-append_right xs ws m e);
}

pub changed_by_message : (xs : List Item) (count : ℕ) (w : Item) → w.number ≡ count + 1 → is_message w ≡ true → Changed xs (xs ++ w ∷ []) count (λ _. false) (w ∷ [])
changed_by_message xs count w new is =
    changed_by_messages xs (w ∷ []) count (just_one count w new) (All-cons (λ o. is_message o ≡ true) w [] is (All-nil (λ o. is_message o ≡ true)))

-- no message has a report's key
pub no_report : (a : Bool) (k : Kind) → is_message_kind k ≡ true → (a && same_kind Report k) ≡ false
no_report a Message e = and_false a
no_report a Report e = absurd (false≢true e)
