-- A PDU to a radio that is cut off: each part is read as before, or bits are missing.
use Rattle.std.proofs.Common.{◌≡◌, ℕ, Bool, true, false, cond, List, [], ◌∷◌, ◌++◌, length, Result, Ok, Err, refl, sym, ap, ◌∙◌, eqb, ltb, inl, inr}
use Rattle.std.specs.Bool.{beq}
use Rattle.std.proofs.lemmas.List.{append-nil}
use Rattle.mm_pdus.specs.declared.fault.MmFault.{MmFault}
use Rattle.mm_pdus.specs.declared.fault.MmFault.TheVariants.{Short, UnknownType}
use Rattle.mm_pdus.specs.declared.update.AcceptType.{AcceptType}
use Rattle.mm_pdus.specs.declared.update.LocationUpdateType.{LocationUpdateType}
use Rattle.mm_pdus.specs.declared.group.GroupDown.{GroupDown}
use Rattle.mm_pdus.specs.declared.downlink.MmDown.{MmDown}
use Rattle.mm_pdus.specs.declared.downlink.MmDown.TheVariants.{Accept, Reject, Acknowledge}
use Rattle.mm_pdus.specs.Values.{update_of, accept_of}
use Rattle.mm_pdus.specs.Downlink.{identity_downlink, rejects, down_text, SpellsDown}
use Rattle.mm_pdus.specs.Reading.{◌>>=◌, known, needs, bit_at, clear_at, field_at, piece_at}
use Rattle.mm_pdus.specs.GroupReading.{group_down_at, body_at}
use Rattle.mm_pdus.specs.DownlinkReading.{one_element_at, answers_at, accept_at, reject_at, acknowledge_at, down_at, reading_down}
use Rattle.mm_pdus.proofs.Steps.{ok_is}
use Rattle.mm_pdus.proofs.CutLaws.{Cut, cut_bind, same_bind, on, value_on, field_cut, piece_cut, bit_cut, clear_cut, whole_missing}
use Rattle.mm_pdus.proofs.DownlinkLaws.{down_again}

module _ (more : List Bool) where
  -- ---- the groups of an acknowledgement

  abbrev Answers : Type 0
  Answers = Result (List GroupDown × List Bool) MmFault

  abbrev ended_at : List Bool → List GroupDown → Answers
  ended_at bits items = needs (ltb 0 (length items)) >>= λ some. clear_at bits >>= λ rest. Ok (items, rest)

  abbrev groups_of : List Bool × List Bool → Answers
  groups_of body = body_at group_down_at 0 body.0 >>= ended_at body.1

  abbrev sized_at : ℕ × List Bool → Answers
  sized_at len = piece_at len.0 len.1 >>= groups_of

  abbrev named_at : ℕ × List Bool → Answers
  named_at identifier = needs (eqb identifier.0 identity_downlink) >>= λ known. field_at 11 identifier.1 >>= sized_at

  abbrev there_at : Bool × List Bool → Answers
  there_at m = needs m.0 >>= λ there. field_at 4 m.1 >>= named_at

  one_element_cut : (bits : List Bool) (x : List GroupDown × List Bool) → one_element_at group_down_at (bits ++ more) ≡ Ok x → Cut (value_on more) (one_element_at group_down_at bits) x
  unfolding one_element_at
  one_element_cut bits x e =
      let back : List GroupDown × List Bool → List GroupDown × List Bool = value_on more in
      cut_bind (value_on more) back (bit_at bits) (bit_at (bits ++ more)) there_at there_at x (bit_cut more bits) (λ m is h.
      same_bind back (needs m.0) (λ there. field_at 4 m.1 >>= named_at) (λ there. field_at 4 (m.1 ++ more) >>= named_at) x (λ u is h.
      cut_bind (value_on more) back (field_at 4 m.1) (field_at 4 (m.1 ++ more)) named_at named_at x (field_cut more 4 m.1) (λ i is h.
      same_bind back (needs (eqb i.0 identity_downlink)) (λ known. field_at 11 i.1 >>= sized_at) (λ known. field_at 11 (i.1 ++ more) >>= sized_at) x (λ u is h.
      cut_bind (value_on more) back (field_at 11 i.1) (field_at 11 (i.1 ++ more)) sized_at sized_at x (field_cut more 11 i.1) (λ l is h.
      cut_bind (value_on more) back (piece_at l.0 l.1) (piece_at l.0 (l.1 ++ more)) groups_of groups_of x (piece_cut more l.0 l.1) (λ b is h.
      same_bind back (body_at group_down_at 0 b.0) (ended_at b.1) (ended_at (b.1 ++ more)) x (λ items is h.
      same_bind back (needs (ltb 0 (length items))) (λ some. clear_at b.1 >>= λ rest. Ok (items, rest)) (λ some. clear_at (b.1 ++ more) >>= λ rest. Ok (items, rest)) x (λ u is h.
      cut_bind (on more) back (clear_at b.1) (clear_at (b.1 ++ more)) (λ rest. Ok (items, rest)) (λ rest. Ok (items, rest)) x (clear_cut more b.1) (λ y is h.
      inr ((items, y), refl, sym (ok_is (items, y ++ more) x h))) h) h) h) h) h) h) h) h) e

  abbrev some_at : Bool × List Bool → Answers
  some_at m = cond m.0 (one_element_at group_down_at m.1) (Ok ([], m.1))

  some_cut : (b : Bool) (bits : List Bool) (x : List GroupDown × List Bool) → some_at (b, bits ++ more) ≡ Ok x → Cut (value_on more) (some_at (b, bits)) x
  some_cut true bits x e = one_element_cut bits x e
  some_cut false bits x e = inr (([], bits), refl, sym (ok_is ([], bits ++ more) x e))

  answers_cut : (bits : List Bool) (x : List GroupDown × List Bool) → answers_at group_down_at (bits ++ more) ≡ Ok x → Cut (value_on more) (answers_at group_down_at bits) x
  unfolding answers_at
  answers_cut bits x e = cut_bind (value_on more) (value_on more) (bit_at bits) (bit_at (bits ++ more)) some_at some_at x (bit_cut more bits) (λ m is h. some_cut m.0 m.1 x h) e

  -- ---- the PDUs

  abbrev Read : Type 0 → Type 0
  Read A = (MmDown A × Bool) × List Bool

  module _ {A : Type 0} where
    abbrev back : Read A → Read A
    back = value_on more

    accept_cut : (bits : List Bool) (x : Read A) → accept_at {A = A} (bits ++ more) ≡ Ok x → Cut back (accept_at bits) x
    unfolding accept_at
    accept_cut bits x e =
        let fourth : AcceptType → List Bool → Result (Read A) MmFault = λ accept rest. Ok ((Accept accept, true), rest) in
        let third : List Bool → AcceptType → Result (Read A) MmFault = λ bits accept. clear_at bits >>= fourth accept in
        let second : List Bool → LocationUpdateType → Result (Read A) MmFault = λ bits update. known (accept_of update) >>= third bits in
        let first : ℕ × List Bool → Result (Read A) MmFault = λ n. known (update_of n.0) >>= second n.1 in
        cut_bind (value_on more) back (field_at 3 bits) (field_at 3 (bits ++ more)) first first x (field_cut more 3 bits) (λ n is h.
        same_bind back (known (update_of n.0)) (second n.1) (second (n.1 ++ more)) x (λ u is h.
        same_bind back (known (accept_of u)) (third n.1) (third (n.1 ++ more)) x (λ a is h.
        cut_bind (on more) back (clear_at n.1) (clear_at (n.1 ++ more)) (fourth a) (fourth a) x (clear_cut more n.1) (λ y is h.
        inr (((Accept a, true), y), refl, sym (ok_is ((Accept a, true), y ++ more) x h))) h) h) h) e

    reject_cut : (bits : List Bool) (x : Read A) → reject_at {A = A} (bits ++ more) ≡ Ok x → Cut back (reject_at bits) x
    unfolding reject_at
    reject_cut bits x e =
        let third : MmDown A → List Bool → Result (Read A) MmFault = λ pdu rest. clear_at rest >>= λ rest. Ok ((pdu, true), rest) in
        let second : LocationUpdateType → ℕ × List Bool → Result (Read A) MmFault = λ update cause. clear_at cause.1 >>= third (Reject update cause.0) in
        let named : List Bool → LocationUpdateType → Result (Read A) MmFault = λ bits update. field_at 5 bits >>= second update in
        let first : ℕ × List Bool → Result (Read A) MmFault = λ n. known (update_of n.0) >>= named n.1 in
        cut_bind (value_on more) back (field_at 3 bits) (field_at 3 (bits ++ more)) first first x (field_cut more 3 bits) (λ n is h.
        same_bind back (known (update_of n.0)) (named n.1) (named (n.1 ++ more)) x (λ u is h.
        cut_bind (value_on more) back (field_at 5 n.1) (field_at 5 (n.1 ++ more)) (second u) (second u) x (field_cut more 5 n.1) (λ c is h.
        let pdu = Reject u c.0 in
        cut_bind (on more) back (clear_at c.1) (clear_at (c.1 ++ more)) (third pdu) (third pdu) x (clear_cut more c.1) (λ y is h.
        cut_bind (on more) back (clear_at y) (clear_at (y ++ more)) (λ rest. Ok ((pdu, true), rest)) (λ rest. Ok ((pdu, true), rest)) x (clear_cut more y) (λ z is h.
        inr (((pdu, true), z), refl, sym (ok_is ((pdu, true), z ++ more) x h))) h) h) h) h) e

    acknowledge_cut : (bits : List Bool) (x : Read A) → acknowledge_at {A = A} group_down_at (bits ++ more) ≡ Ok x → Cut back (acknowledge_at group_down_at bits) x
    unfolding acknowledge_at
    acknowledge_cut [] x e = inl refl
    acknowledge_cut (rejected ∷ []) x e = inl refl
    acknowledge_cut (rejected ∷ reserved ∷ bits) x e =
        let made : List GroupDown × List Bool → Result (Read A) MmFault = λ items. Ok ((Acknowledge items.0, beq rejected (rejects items.0)), items.1) in
        cut_bind (value_on more) back (answers_at group_down_at bits) (answers_at group_down_at (bits ++ more)) made made x (answers_cut bits) (λ y is h.
        inr (((Acknowledge y.0, beq rejected (rejects y.0)), y.1), refl, sym (ok_is ((Acknowledge y.0, beq rejected (rejects y.0)), y.1 ++ more) x h))) e

    abbrev by : Bool → Bool → Bool → List Bool → Result (Read A) MmFault
    by five seven eleven bits = cond five (accept_at bits) (cond seven (reject_at bits) (cond eleven (acknowledge_at group_down_at bits) (Err UnknownType)))

    by_cut : (five seven eleven : Bool) (bits : List Bool) (x : Read A) → by five seven eleven (bits ++ more) ≡ Ok x → Cut back (by five seven eleven bits) x
    by_cut true seven eleven bits x e = accept_cut bits x e
    by_cut false true eleven bits x e = reject_cut bits x e
    by_cut false false true bits x e = acknowledge_cut bits x e
    by_cut false false false bits x e = absurd cc

    pub down_cut : (bits : List Bool) (x : Read A) → down_at {A = A} group_down_at (bits ++ more) ≡ Ok x → Cut back (down_at group_down_at bits) x
    unfolding down_at
    down_cut bits x e =
        let kind_of : ℕ × List Bool → Result (Read A) MmFault = λ kind. by (eqb kind.0 5) (eqb kind.0 7) (eqb kind.0 11) kind.1 in
        cut_bind (value_on more) back (field_at 4 bits) (field_at 4 (bits ++ more)) kind_of kind_of x (field_cut more 4 bits) (λ y is h. by_cut (eqb y.0 5) (eqb y.0 7) (eqb y.0 11) y.1 x h) e

pub missing : {A : Type 0} (p : MmDown A) (bits rest : List Bool) (b : Bool) → SpellsDown p (bits ++ b ∷ rest) → reading_down {A = A} bits ≡ Err Short
unfolding reading_down
missing {A} p bits rest b spells =
    let all : down_at group_down_at (bits ++ b ∷ rest) ≡ Ok ((p, true), []) = ap (down_at group_down_at) (spells.2 ∙ sym (append-nil (down_text spells.1 p))) ∙ down_again p spells.1 [] spells.0 in
    ap (λ (r : Result (MmDown A × Bool) MmFault). r >>= λ read. needs read.1 >>= λ said. Ok read.0)
    (whole_missing (down_at group_down_at bits) (p, true) b rest (down_cut (b ∷ rest) bits ((p, true), []) all))
