-- The two laws for PDUs to a radio: what is read is spelt so, and what is spelt so is read.
use Rattle.std.proofs.Common.{◌≡◌, ℕ, ◌<◌, ◌≤◌, Bool, true, false, not, cond, List, [], ◌∷◌, ◌++◌, length, Result, Ok, Err, refl, sym, ap, subst, ◌∙◌, arith, eqb, ltb, append_assoc, inl, inr}
use Rattle.std.specs.Bool.{beq}
use Rattle.std.specs.List.{AllByRecursion}
use Rattle.std.specs.Prelude.{IfOk}
use Rattle.std.proofs.lemmas.Bool.{eqb-true, ne_eqb, lt-ltb}
use Rattle.std.proofs.lemmas.List.{append-nil}
use Rattle.base.proofs.Lists.{regroup_four, regroup_five}
use Rattle.identity.specs.Number.{num}
use Rattle.mm_pdus.specs.declared.fault.MmFault.{MmFault}
use Rattle.mm_pdus.specs.declared.fault.MmFault.TheVariants.{Trailing, UnknownType, BadElement}
use Rattle.mm_pdus.specs.declared.update.AcceptType.{AcceptType}
use Rattle.mm_pdus.specs.declared.update.LocationUpdateType.{LocationUpdateType}
use Rattle.mm_pdus.specs.declared.group.GroupDown.{GroupDown}
use Rattle.mm_pdus.specs.declared.downlink.MmDown.{MmDown}
use Rattle.mm_pdus.specs.declared.downlink.MmDown.TheVariants.{Accept, Reject, Acknowledge}
use Rattle.mm_pdus.specs.Values.{update_of, update_number, accept_of, update_accepted, most_groups}
use Rattle.mm_pdus.specs.Syntax.{element, extension}
use Rattle.mm_pdus.specs.Groups.{group_down, IsGroupDown, groups_body, groups_extension}
use Rattle.mm_pdus.specs.Downlink.{identity_downlink, rejects, accept_text, reject_text, acknowledge_text, IsDown, down_text, canon_down, SpellsDown}
use Rattle.mm_pdus.specs.Reading.{◌>>=◌, known, needs, clear_at, field_at, piece_at, whole, made_element, Gives}
use Rattle.mm_pdus.specs.GroupReading.{group_down_at, body_at}
use Rattle.mm_pdus.specs.DownlinkReading.{one_element_at, answers_at, accept_at, reject_at, acknowledge_at, down_at, reading_down}
use Rattle.mm_pdus.proofs.Steps.{bind_ok, ok_is, chosen, join, err_ok, whole_takes, whole_after}
use Rattle.mm_pdus.proofs.ValueLaws.{update_named, update_of-update_number, update_number-lt, accept_of-update_accepted, update_accepted-accept_of}
use Rattle.mm_pdus.proofs.FieldLaws.{known_takes, clear_takes, field_takes, field_again, piece_takes, piece_again}
use Rattle.mm_pdus.proofs.GroupLaws as groups
use Rattle.mm_pdus.proofs.GroupSteps.{group_down_short, groups_body_short}

needs_takes : (b : Bool) (u : Unit {0}) → needs b ≡ Ok u → b ≡ true
needs_takes true u h = refl
needs_takes false u h = absurd cc

beq-true : (a b : Bool) → beq a b ≡ true → a ≡ b
beq-true true true h = refl
beq-true false false h = refl
beq-true true false h = absurd cc
beq-true false true h = absurd cc

beq-refl : (b : Bool) → beq b b ≡ true
beq-refl true = refl
beq-refl false = refl

-- ---- the groups of an acknowledgement

-- there are at most 32 groups, and each has the bits that it needs
abbrev AreAnswers : List GroupDown → Type 0
AreAnswers items = (length items ≤ most_groups) × AllByRecursion IsGroupDown items

abbrev answers : List GroupDown → List Bool
answers items = extension (groups_extension group_down identity_downlink items)

-- the one element with groups, and the bit 0 after it
one_element : List GroupDown → List Bool
one_element items = (num 4 identity_downlink ++ num 11 (length (groups_body group_down items))) ++ groups_body group_down items

one_text : (g : GroupDown) (items : List GroupDown) → answers (g ∷ items) ≡ true ∷ true ∷ (one_element (g ∷ items) ++ false ∷ [])
unfolding one_element
one_text g items = ap (λ (t : List Bool). true ∷ (t ++ false ∷ [])) (append-nil (element (made_element identity_downlink (groups_body group_down (g ∷ items)))))

some_text : (items : List GroupDown) → ltb 0 (length items) ≡ true → answers items ≡ true ∷ true ∷ (one_element items ++ false ∷ [])
some_text [] some = absurd cc
some_text (g ∷ items) some = one_text g items

-- what is read after each part of the element
ended_at : List Bool → List GroupDown → Result (List GroupDown × List Bool) MmFault
ended_at bits items = needs (ltb 0 (length items)) >>= λ some. clear_at bits >>= λ rest. Ok (items, rest)

groups_of : List Bool × List Bool → Result (List GroupDown × List Bool) MmFault
groups_of body = body_at group_down_at 0 body.0 >>= ended_at body.1

named_at : ℕ × List Bool → Result (List GroupDown × List Bool) MmFault
named_at identifier = needs (eqb identifier.0 identity_downlink) >>= λ known. field_at 11 identifier.1 >>= λ len. piece_at len.0 len.1 >>= groups_of

abbrev AnswersTaken : List Bool → List GroupDown × List Bool → Type 0
AnswersTaken bits x = (bits ≡ answers x.0 ++ x.1) × AreAnswers x.0

element_taken : (bits : List Bool) (x : List GroupDown × List Bool) → one_element_at group_down_at bits ≡ Ok x → AnswersTaken (true ∷ bits) x
unfolding one_element_at named_at groups_of ended_at one_element
element_taken [] x h = absurd cc
element_taken (false ∷ bits) x h = absurd cc
element_taken (true ∷ bits) x h =
    let i = bind_ok (field_at 4 bits) named_at x h in
    let k = bind_ok (needs (eqb i.0.0 identity_downlink)) (λ known. field_at 11 i.0.1 >>= λ len. piece_at len.0 len.1 >>= groups_of) x i.2 in
    let l = bind_ok (field_at 11 i.0.1) (λ len. piece_at len.0 len.1 >>= groups_of) x k.2 in
    let b = bind_ok (piece_at l.0.0 l.0.1) groups_of x l.2 in
    let g = bind_ok (body_at group_down_at 0 b.0.0) (ended_at b.0.1) x b.2 in
    let s = bind_ok (needs (ltb 0 (length g.0))) (λ some. clear_at b.0.1 >>= λ rest. Ok (g.0, rest)) x g.2 in
    let e = bind_ok (clear_at b.0.1) (λ rest. Ok (g.0, rest)) x s.2 in
    let t1 = field_takes 4 bits i.0.0 i.0.1 i.1 in
    let t2 = field_takes 11 i.0.1 l.0.0 l.0.1 l.1 in
    let t3 = piece_takes l.0.0 l.0.1 b.0.0 b.0.1 b.1 in
    let t4 = groups.body_takes groups.down_text 0 b.0.0 g.0 g.1 in
    let t5 = clear_takes b.0.1 e.0 e.1 in
    let name : i.0.0 ≡ identity_downlink = eqb-true i.0.0 identity_downlink (needs_takes (eqb i.0.0 identity_downlink) k.0 k.1) in
    let some : ltb 0 (length g.0) ≡ true = needs_takes (ltb 0 (length g.0)) s.0 s.1 in
    let start : bits ≡ (num 4 i.0.0 ++ num 11 l.0.0) ++ l.0.1 = join bits (num 4 i.0.0) i.0.1 (num 11 l.0.0) l.0.1 t1.0 t2.0 in
    let spelt : bits ≡ ((num 4 i.0.0 ++ num 11 l.0.0) ++ b.0.0) ++ b.0.1 = join bits (num 4 i.0.0 ++ num 11 l.0.0) l.0.1 b.0.0 b.0.1 start t3.0 in
    let body : b.0.0 ≡ groups_body group_down g.0 = t4.0.1 in
    let few : length g.0 ≤ most_groups = omega (arith, t4.1) in
    let len : l.0.0 ≡ length (groups_body group_down g.0) = sym t3.1 ∙ ap length body in
    let is : bits ≡ one_element g.0 ++ false ∷ e.0 =
    spelt
    ∙ ap (λ (n : ℕ). ((num 4 n ++ num 11 l.0.0) ++ b.0.0) ++ b.0.1) name
    ∙ ap (λ (n : ℕ). ((num 4 identity_downlink ++ num 11 n) ++ b.0.0) ++ b.0.1) len
    ∙ ap (λ (t : List Bool). ((num 4 identity_downlink ++ num 11 (length (groups_body group_down g.0))) ++ t) ++ b.0.1) body
    ∙ ap (λ (t : List Bool). one_element g.0 ++ t) t5 in
    let all : true ∷ true ∷ bits ≡ answers g.0 ++ e.0 =
    ap (λ (t : List Bool). true ∷ true ∷ t) (is ∙ sym (append_assoc (one_element g.0) (false ∷ []) e.0))
    ∙ ap (λ (t : List Bool). t ++ e.0) (sym (some_text g.0 some)) in
    subst (AnswersTaken (true ∷ true ∷ bits)) (ok_is (g.0, e.0) x e.2) (all, (few, t4.0.0))

answers_taken : (bits : List Bool) (x : List GroupDown × List Bool) → answers_at group_down_at bits ≡ Ok x → AnswersTaken bits x
unfolding answers_at
answers_taken [] x h = absurd cc
answers_taken (false ∷ bits) x h = subst (AnswersTaken (false ∷ bits)) (ok_is ([], bits) x h) (refl, (omega arith, tt))
answers_taken (true ∷ bits) x h = element_taken bits x h

pub answers_again : (items : List GroupDown) (rest : List Bool) → AreAnswers items → answers_at group_down_at (answers items ++ rest) ≡ Ok (items, rest)
unfolding answers_at one_element_at one_element
answers_again [] rest fits = refl
answers_again (g ∷ items) rest fits =
    let all = g ∷ items in
    let body = groups_body group_down all in
    let short = groups_body_short group_down all group_down_short fits.0 in
    let some : ltb 0 (length all) ≡ true = lt-ltb 0 (length all) (omega arith) in
    ap (λ (t : List Bool). answers_at group_down_at (t ++ rest)) (one_text g items)
    ∙ ap (λ (t : List Bool). answers_at group_down_at (true ∷ true ∷ t)) (regroup_five (num 4 identity_downlink) (num 11 (length body)) body (false ∷ []) rest)
    ∙ rw (
      field_again 4 identity_downlink (num 11 (length body) ++ (body ++ (false ∷ rest))) (omega arith),
      field_again 11 (length body) (body ++ (false ∷ rest)) short,
      piece_again (length body) body (false ∷ rest) refl,
      groups.body_again groups.down_text 0 all fits.1 (omega (arith, fits.0)),
      some,
    ) refl

beq-not : (b : Bool) → beq (not b) b ≡ false
beq-not true = refl
beq-not false = refl

-- ---- the PDUs

module _ {A : Type 0} where
  -- A PDU that was read, and whether what it says of its groups is so: with the bits that were left it is the text, if so.
  abbrev Taken : List Bool → (MmDown A × Bool) × List Bool → Type 0
  Taken bits x = x.0.1 ≡ true → (text : List Bool) × (bits ≡ text ++ x.1) × SpellsDown x.0.0 text

  accept_takes : (bits : List Bool) (x : (MmDown A × Bool) × List Bool) → accept_at {A = A} bits ≡ Ok x → Taken (num 4 5 ++ bits) x
  unfolding accept_at
  accept_takes bits x h =
      let fourth : AcceptType → List Bool → Result ((MmDown A × Bool) × List Bool) MmFault = λ accept rest. Ok ((Accept accept, true), rest) in
      let third : List Bool → AcceptType → Result ((MmDown A × Bool) × List Bool) MmFault = λ bits accept. clear_at bits >>= fourth accept in
      let second : List Bool → LocationUpdateType → Result ((MmDown A × Bool) × List Bool) MmFault = λ bits update. known (accept_of update) >>= third bits in
      let a = bind_ok (field_at 3 bits) (λ number. known (update_of number.0) >>= second number.1) x h in
      let k = bind_ok (known (update_of a.0.0)) (second a.0.1) x a.2 in
      let b = bind_ok (known (accept_of k.0)) (third a.0.1) x k.2 in
      let d = bind_ok (clear_at a.0.1) (fourth b.0) x b.2 in
      let t1 = field_takes 3 bits a.0.0 a.0.1 a.1 in
      let is_update = update_accepted-accept_of k.0 b.0 (known_takes (accept_of k.0) b.0 b.1) in
      let code : num 3 a.0.0 ≡ num 3 (update_number (update_accepted b.0)) = ap (num 3) (update_named a.0.0 k.0 (known_takes (update_of a.0.0) k.0 k.1) ∙ sym (ap update_number is_update)) in
      let t2 = clear_takes a.0.1 d.0 d.1 in
      let start : num 4 5 ++ bits ≡ (num 4 5 ++ num 3 (update_number (update_accepted b.0))) ++ a.0.1 =
      join (num 4 5 ++ bits) (num 4 5) bits (num 3 (update_number (update_accepted b.0))) a.0.1 refl
      (t1.0 ∙ ap (λ (t : List Bool). t ++ a.0.1) code) in
      let is : num 4 5 ++ bits ≡ accept_text b.0 ++ d.0 = join (num 4 5 ++ bits) (num 4 5 ++ num 3 (update_number (update_accepted b.0))) a.0.1 (false ∷ []) d.0 start t2 in
      subst (Taken (num 4 5 ++ bits)) (ok_is ((Accept b.0, true), d.0) x d.2) (λ so. (accept_text b.0, is, (tt, false, refl)))

  reject_takes : (bits : List Bool) (x : (MmDown A × Bool) × List Bool) → reject_at {A = A} bits ≡ Ok x → Taken (num 4 7 ++ bits) x
  unfolding reject_at
  reject_takes bits x h =
      let fourth : LocationUpdateType → ℕ → List Bool → Result ((MmDown A × Bool) × List Bool) MmFault = λ update cause rest. Ok ((Reject update cause, true), rest) in
      let third : LocationUpdateType → ℕ × List Bool → Result ((MmDown A × Bool) × List Bool) MmFault = λ update cause. clear_at cause.1 >>= λ rest. clear_at rest >>= fourth update cause.0 in
      let a = bind_ok (field_at 3 bits) (λ number. known (update_of number.0) >>= λ update. field_at 5 number.1 >>= third update) x h in
      let k = bind_ok (known (update_of a.0.0)) (λ update. field_at 5 a.0.1 >>= third update) x a.2 in
      let update = k.0 in
      let b = bind_ok (field_at 5 a.0.1) (third update) x k.2 in
      let d = bind_ok (clear_at b.0.1) (λ rest. clear_at rest >>= fourth update b.0.0) x b.2 in
      let e = bind_ok (clear_at d.0) (fourth update b.0.0) x d.2 in
      let t1 = field_takes 3 bits a.0.0 a.0.1 a.1 in
      let t2 = field_takes 5 a.0.1 b.0.0 b.0.1 b.1 in
      let t3 = clear_takes b.0.1 d.0 d.1 in
      let t4 = clear_takes d.0 e.0 e.1 in
      let code : num 3 a.0.0 ≡ num 3 (update_number update) = ap (num 3) (update_named a.0.0 update (known_takes (update_of a.0.0) update k.1)) in
      let start : num 4 7 ++ bits ≡ (num 4 7 ++ num 3 (update_number update)) ++ a.0.1 =
      join (num 4 7 ++ bits) (num 4 7) bits (num 3 (update_number update)) a.0.1 refl (t1.0 ∙ ap (λ (t : List Bool). t ++ a.0.1) code) in
      let middle : num 4 7 ++ bits ≡ (num 4 7 ++ num 3 (update_number update) ++ num 5 b.0.0) ++ b.0.1 =
      join (num 4 7 ++ bits) (num 4 7 ++ num 3 (update_number update)) a.0.1 (num 5 b.0.0) b.0.1 start t2.0 in
      let last : b.0.1 ≡ (false ∷ false ∷ []) ++ e.0 = t3 ∙ ap (λ (t : List Bool). false ∷ t) t4 in
      let is : num 4 7 ++ bits ≡ reject_text update b.0.0 ++ e.0 = join (num 4 7 ++ bits) (num 4 7 ++ num 3 (update_number update) ++ num 5 b.0.0) b.0.1 (false ∷ false ∷ []) e.0 middle last in
      subst (Taken (num 4 7 ++ bits)) (ok_is ((Reject update b.0.0, true), e.0) x e.2) (λ so. (reject_text update b.0.0, is, (t2.1, false, refl)))

  acknowledge_takes : (bits : List Bool) (x : (MmDown A × Bool) × List Bool) → acknowledge_at {A = A} group_down_at bits ≡ Ok x → Taken (num 4 11 ++ bits) x
  unfolding acknowledge_at
  acknowledge_takes [] x h = absurd cc
  acknowledge_takes (rejected ∷ []) x h = absurd cc
  acknowledge_takes (rejected ∷ reserved ∷ bits) x h =
      let made : List GroupDown × List Bool → Result ((MmDown A × Bool) × List Bool) MmFault = λ items. Ok ((Acknowledge items.0, beq rejected (rejects items.0)), items.1) in
      let a = bind_ok (answers_at group_down_at bits) made x h in
      let t = answers_taken bits a.0 a.1 in
      let is : num 4 11 ++ rejected ∷ reserved ∷ bits ≡ (num 4 11 ++ rejected ∷ reserved ∷ answers a.0.0) ++ a.0.1 =
      ap (λ (t : List Bool). num 4 11 ++ rejected ∷ reserved ∷ t) t.0 ∙
      sym (append_assoc (num 4 11) (rejected ∷ reserved ∷ answers a.0.0) a.0.1) in
      subst (Taken (num 4 11 ++ rejected ∷ reserved ∷ bits)) (ok_is ((Acknowledge a.0.0, beq rejected (rejects a.0.0)), a.0.1) x a.2)
      (λ so. (acknowledge_text reserved a.0.0, is ∙ ap (λ (b : Bool). (num 4 11 ++ b ∷ reserved ∷ answers a.0.0) ++ a.0.1) (beq-true rejected (rejects a.0.0) so), (t.1, reserved, refl)))

  down_takes : (bits : List Bool) (x : (MmDown A × Bool) × List Bool) → down_at {A = A} group_down_at bits ≡ Ok x → Taken bits x
  unfolding down_at
  down_takes bits x h =
      let a = bind_ok (field_at 4 bits)
      (λ kind. cond (eqb kind.0 5) (accept_at kind.1)
      (cond (eqb kind.0 7) (reject_at kind.1) (cond (eqb kind.0 11) (acknowledge_at group_down_at kind.1) (Err UnknownType)))) x h in
      let t = field_takes 4 bits a.0.0 a.0.1 a.1 in
      let is_kind : (k : ℕ) → eqb a.0.0 k ≡ true → num 4 k ++ a.0.1 ≡ bits = λ k e. ap (λ (n : ℕ). num 4 n ++ a.0.1) (sym (eqb-true a.0.0 k e)) ∙ sym t.0 in
      let taken : (k : ℕ) → eqb a.0.0 k ≡ true → Taken (num 4 k ++ a.0.1) x → Taken bits x = λ k e. subst (λ (b : List Bool). Taken b x) (is_kind k e) in
      elim (chosen (eqb a.0.0 5) (accept_at a.0.1) (cond (eqb a.0.0 7) (reject_at a.0.1) (cond (eqb a.0.0 11) (acknowledge_at group_down_at a.0.1) (Err UnknownType))) (Ok x) a.2) [
        | inl five ↦ taken 5 five.0 (accept_takes a.0.1 x five.1)
        | inr other ↦ elim (chosen (eqb a.0.0 7) (reject_at a.0.1) (cond (eqb a.0.0 11) (acknowledge_at group_down_at a.0.1) (Err UnknownType)) (Ok x) other.1) [
          | inl seven ↦ taken 7 seven.0 (reject_takes a.0.1 x seven.1)
          | inr last ↦ elim (chosen (eqb a.0.0 11) (acknowledge_at group_down_at a.0.1) (Err UnknownType) (Ok x) last.1) [
            | inl eleven ↦ taken 11 eleven.0 (acknowledge_takes a.0.1 x eleven.1)
            | inr none ↦ absurd (err_ok {A = (MmDown A × Bool) × List Bool} UnknownType x none.1)
          ]
        ]
      ]

  pub down_again : (p : MmDown A) (reserved : Bool) (rest : List Bool) → IsDown p → down_at group_down_at (down_text reserved p ++ rest) ≡ Ok ((p, true), rest)
  unfolding down_at accept_at reject_at acknowledge_at
  down_again (Accept update) reserved rest fits =
      let is = update_accepted update in
      let small = update_number-lt is in
      ap (down_at group_down_at) (regroup_four (num 4 5) (num 3 (update_number is)) (false ∷ []) rest)
      ∙ rw (
        field_again 4 5 (num 3 (update_number is) ++ (false ∷ rest)) (omega arith),
        field_again 3 (update_number is) (false ∷ rest) (omega arith),
        update_of-update_number is,
        accept_of-update_accepted update,
      ) refl
  down_again (Reject update cause) reserved rest fits =
      let small = update_number-lt update in
      ap (down_at group_down_at) (regroup_five (num 4 7) (num 3 (update_number update)) (num 5 cause) (false ∷ false ∷ []) rest)
      ∙ rw (
        field_again 4 7 (num 3 (update_number update) ++ (num 5 cause ++ (false ∷ false ∷ rest))) (omega arith),
        field_again 3 (update_number update) (num 5 cause ++ (false ∷ false ∷ rest)) (omega arith),
        field_again 5 cause (false ∷ false ∷ rest) fits,
        update_of-update_number update,
      ) refl
  down_again (Acknowledge items) reserved rest fits =
      ap (down_at group_down_at) (append_assoc (num 4 11) (rejects items ∷ reserved ∷ answers items) rest)
      ∙ rw (field_again 4 11 (rejects items ∷ reserved ∷ (answers items ++ rest)) (omega arith), answers_again items rest fits, beq-refl (rejects items)) refl

  reading_takes : (bits : List Bool) (p : MmDown A) → reading_down bits ≡ Ok p → SpellsDown p bits
  unfolding reading_down
  reading_takes bits p h =
      let a = bind_ok (whole (down_at group_down_at bits)) (λ read. needs read.1 >>= λ said. Ok read.0) p h in
      let b = bind_ok (needs a.0.1) (λ said. Ok a.0.0) p a.2 in
      let t = down_takes bits (a.0, []) (whole_takes (down_at group_down_at bits) a.0 a.1) (needs_takes a.0.1 b.0 b.1) in
      subst (λ (q : MmDown A). SpellsDown q bits) (ok_is a.0.0 p b.2) (subst (SpellsDown a.0.0) (sym (t.1 ∙ append-nil t.0)) t.2)

  pub reading_again : (bits : List Bool) (p : MmDown A) → SpellsDown p bits → reading_down bits ≡ Ok p
  unfolding reading_down
  reading_again bits p spells = rw (ap (down_at group_down_at) (spells.2 ∙ sym (append-nil (down_text spells.1 p))) ∙ down_again p spells.1 [] spells.0) refl

  pub is_spelt : (bits : List Bool) (r : Result (MmDown A) MmFault) → Gives r (reading_down bits) → IfOk r (λ p. SpellsDown p bits)
  is_spelt bits (Ok p) given = reading_takes bits p given
  is_spelt bits (Err f) given = tt

  pub is_found : (bits : List Bool) (r : Result (MmDown A) MmFault) → Gives r (reading_down bits) → (p : MmDown A) → SpellsDown p bits → Gives r (Ok p)
  is_found bits r given p spells = subst (Gives r) (reading_again bits p spells) given

  pub one_value : (p q : MmDown A) (bits : List Bool) → SpellsDown p bits → SpellsDown q bits → p ≡ q
  one_value p q bits a b = ok_is p q (sym (reading_again bits p a) ∙ reading_again bits q b)

  pub canon_spells : (p : MmDown A) → IsDown p → SpellsDown p (canon_down p)
  canon_spells p fits = (fits, false, refl)

  pub read_back : (p : MmDown A) → IsDown p → reading_down (canon_down p) ≡ Ok p
  read_back p fits = reading_again (canon_down p) p (canon_spells p fits)

  pub trailing : (p : MmDown A) (bits rest : List Bool) (b : Bool) → SpellsDown p bits → reading_down {A = A} (bits ++ b ∷ rest) ≡ Err Trailing
  unfolding reading_down
  trailing p bits rest b spells =
      let read : down_at group_down_at (bits ++ b ∷ rest) ≡ Ok ((p, true), b ∷ rest) =
      ap (λ (t : List Bool). down_at group_down_at (t ++ b ∷ rest)) spells.2 ∙ down_again p spells.1 (b ∷ rest) spells.0 in
      rw (ap whole read ∙ whole_after (p, true) b rest) refl

  pub other_type : (kind : ℕ) (rest : List Bool) → kind < 16 → (kind ≡ 5 → ⊥) → (kind ≡ 7 → ⊥) → (kind ≡ 11 → ⊥) → reading_down {A = A} (num 4 kind ++ rest) ≡ Err UnknownType
  unfolding reading_down down_at
  other_type kind rest small accept reject acknowledge = rw (field_again 4 kind rest small, ne_eqb kind 5 accept, ne_eqb kind 7 reject, ne_eqb kind 11 acknowledge) refl

  -- the bit that says whether a group is rejected says the other
  pub wrong_flag : (items : List GroupDown) (reserved : Bool) → AreAnswers items → reading_down {A = A} (num 4 11 ++ not (rejects items) ∷ reserved ∷ answers items) ≡ Err BadElement
  unfolding reading_down down_at acknowledge_at
  wrong_flag items reserved fits =
      let text : answers items ≡ answers items ++ [] = sym (append-nil (answers items)) in
      ap (λ (t : List Bool). reading_down {A = A} (num 4 11 ++ not (rejects items) ∷ reserved ∷ t)) text
      ∙ rw (field_again 4 11 (not (rejects items) ∷ reserved ∷ (answers items ++ [])) (omega arith), answers_again items [] fits, beq-not (rejects items)) refl
