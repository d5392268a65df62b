-- Reading where no group can be kept: as else before the first group, and there it ends.
use Rattle.std.proofs.Common.{◌≡◌, ℕ, zero, suc, ◌<◌, Bool, true, false, cond, List, ◌∷◌, ◌++◌, ◌+◌, length, Some, Result, Ok, Err, refl, sym, ap, ◌∙◌, arith, eqb, ltb, ◌⊎◌, inl, inr}
use Rattle.mm_pdus.specs.declared.fault.MmFault.{MmFault}
use Rattle.mm_pdus.specs.declared.fault.MmFault.TheVariants.{TooMany, BadElement, NoMemory}
use Rattle.mm_pdus.specs.declared.group.GroupUp.{GroupUp}
use Rattle.mm_pdus.specs.Values.{most_groups}
use Rattle.mm_pdus.specs.Syntax.{Element}
use Rattle.mm_pdus.specs.Uplink.{identity_uplink}
use Rattle.mm_pdus.specs.Reading.{◌>>=◌, field_at, element_at, elements_at}
use Rattle.mm_pdus.specs.GroupReading.{group_up_at, unkept, groups_at, counted_at, body_at, read_inside, appended_to}
use Rattle.mm_pdus.specs.UplinkReading.{join_groups}
use Rattle.mm_pdus.proofs.Steps.{bind_ok}
use Rattle.mm_pdus.proofs.ElementSteps.{elements_on, elements_fail, elements_refuse}

module _ {T : Type 0} (group_at : List Bool → Result (T × List Bool) MmFault) where
  -- no group was read yet, or the first one ended it
  abbrev pub IsFirst : List Bool → ℕ → List Bool → Type 0
  IsFirst begin count bits = (bits ≡ begin) ⊎ (groups_at (unkept group_at) count begin ≡ Err NoMemory)

  groups_fail : (count : ℕ) (bits : List Bool) (f : MmFault) → zero < count → group_at bits ≡ Err f → groups_at (unkept group_at) count bits ≡ Err f
  unfolding groups_at
  groups_fail zero bits f some e = absurd (omega arith)
  groups_fail (suc n) bits f some e = rw e refl

  groups_want : (count : ℕ) (bits : List Bool) (x : T × List Bool) → zero < count → group_at bits ≡ Ok x → groups_at (unkept group_at) count bits ≡ Err NoMemory
  unfolding groups_at
  groups_want zero bits x some e = absurd (omega arith)
  groups_want (suc n) bits x some e = rw e refl

  pub read_wants : (begin : List Bool) (count : ℕ) (bits : List Bool) (f : MmFault) → zero < count → IsFirst begin count bits →
      group_at bits ≡ Err f → f ≡ NoMemory → groups_at (unkept group_at) count begin ≡ Err f
  read_wants begin count bits f some (inl same) e is = groups_fail count begin f some (ap group_at (sym same) ∙ e)
  read_wants begin count bits f some (inr first) e is = first ∙ ap (λ (d : MmFault). Err d) (sym is)

  pub add_wants : (begin : List Bool) (count : ℕ) (bits : List Bool) (x : T × List Bool) → zero < count → IsFirst begin count bits →
      group_at bits ≡ Ok x → groups_at (unkept group_at) count begin ≡ Err NoMemory
  add_wants begin count bits x some (inl same) e = groups_want count begin x some (ap group_at (sym same) ∙ e)
  add_wants begin count bits x some (inr first) e = first

  -- what is read with memory is read so without it, or memory runs out
  groups_same : (count : ℕ) (bits : List Bool) (x : List T × List Bool) → groups_at group_at count bits ≡ Ok x →
      (groups_at (unkept group_at) count bits ≡ Ok x) ⊎ (groups_at (unkept group_at) count bits ≡ Err NoMemory)
  unfolding groups_at
  groups_same zero bits x e = inl e
  groups_same (suc n) bits x e =
      let a = bind_ok (group_at bits) (λ first. groups_at group_at n first.1 >>= λ others. Ok (first.0 ∷ others.0, others.1)) x e in
      inr (rw a.1 refl)

  ended : List T × List Bool → Result (List T) MmFault
  ended items = cond (eqb (length items.1) 0) (Ok items.0) (Err BadElement)

  by_count : (b : Bool) (r s : Result (List T × List Bool) MmFault) (x : List T) → ((y : List T × List Bool) → r ≡ Ok y → (s ≡ Ok y) ⊎ (s ≡ Err NoMemory)) → cond b (Err TooMany) (r >>= ended) ≡ Ok x
      → (cond b (Err TooMany) (s >>= ended) ≡ Ok x) ⊎ (cond b (Err TooMany) (s >>= ended) ≡ Err NoMemory)
  by_count true r s x same e = absurd cc
  by_count false r s x same e =
      let a = bind_ok r ended x e in
      elim (same a.0 a.1) [ inl is ↦ inl (rw is a.2) | inr wants ↦ inr (rw wants refl) ]

  counted_same : (before : ℕ) (bits : List Bool) (x : List T) → counted_at group_at before bits ≡ Ok x →
      (counted_at (unkept group_at) before bits ≡ Ok x) ⊎ (counted_at (unkept group_at) before bits ≡ Err NoMemory)
  unfolding counted_at ended
  counted_same before bits x e =
      let a = bind_ok (field_at 6 bits) (λ count. cond (ltb most_groups (before + count.0)) (Err TooMany) (groups_at group_at count.0 count.1 >>= ended)) x e in
      rw a.1 (by_count (ltb most_groups (before + a.0.0)) (groups_at group_at a.0.0 a.0.1) (groups_at (unkept group_at) a.0.0 a.0.1) x (groups_same a.0.0 a.0.1) a.2)

  inside_ok : {X : Type 0} (r : Result X MmFault) (x : X) → read_inside r ≡ Ok x → r ≡ Ok x
  inside_ok (Ok y) x e = e
  inside_ok (Err f) x e = absurd cc

  body_same : (before : ℕ) (bits : List Bool) (x : List T) → body_at group_at before bits ≡ Ok x → (body_at (unkept group_at) before bits ≡ Ok x) ⊎
      (body_at (unkept group_at) before bits ≡ Err NoMemory)
  body_same before bits x e =
      elim (counted_same before bits x (inside_ok (counted_at group_at before bits) x e)) [ inl is ↦ inl (ap read_inside is) | inr wants ↦ inr (ap read_inside wants) ]

-- ---- the elements of a PDU from a radio

abbrev without : List GroupUp → Element → Result (List GroupUp) MmFault
without = join_groups (unkept group_up_at)

join_same : (items : List GroupUp) (e : Element) (x : List GroupUp) → join_groups group_up_at items e ≡ Ok x → (without items e ≡ Ok x) ⊎ (without items e ≡ Err NoMemory)
join_same items e x h = by (eqb e.identifier identity_uplink) h
  where
    by : (b : Bool) → cond b (appended_to items (body_at group_up_at (length items) e.body)) (Ok items) ≡ Ok x
        → (cond b (appended_to items (body_at (unkept group_up_at) (length items) e.body)) (Ok items) ≡ Ok x) ⊎
        (cond b (appended_to items (body_at (unkept group_up_at) (length items) e.body)) (Ok items) ≡ Err NoMemory)
    by false h = inl h
    by true h =
        let a = bind_ok (body_at group_up_at (length items) e.body) (λ more. Ok (items ++ more)) x h in
        elim (body_same group_up_at (length items) e.body a.0 a.1) [ inl is ↦ inl (ap (appended_to items) is ∙ a.2) | inr wants ↦ inr (ap (appended_to items) wants) ]

abbrev all : List GroupUp → List Bool → Result (List GroupUp × List Bool) MmFault
all items bits = elements_at without (length bits) items bits

-- no group was read yet, or the first one ended it
abbrev pub AreFirst : List GroupUp → List Bool → List GroupUp → List Bool → Type 0
AreFirst start begin items bits = (all items bits ≡ all start begin) ⊎ (all start begin ≡ Err NoMemory)

pub element_wants : (start : List GroupUp) (begin : List Bool) (items : List GroupUp) (bits : List Bool) (f : MmFault) →
    AreFirst start begin items bits → element_at bits ≡ Err f → f ≡ NoMemory → all start begin ≡ Err f
element_wants start begin items bits f (inl same) e is = sym same ∙ elements_fail without items bits f e
element_wants start begin items bits f (inr first) e is = first ∙ ap (λ (d : MmFault). Err d) (sym is)

pub join_wants : (start : List GroupUp) (begin : List Bool) (items : List GroupUp) (bits rest : List Bool) (e : Element) (f : MmFault) →
    AreFirst start begin items bits → element_at bits ≡ Ok (Some e, rest)
    → (f ≡ NoMemory → without items e ≡ Err f) → f ≡ NoMemory → all start begin ≡ Err f
join_wants start begin items bits rest e f (inl same) read wants is = sym same ∙ elements_refuse without items bits rest e f read (wants is)
join_wants start begin items bits rest e f (inr first) read wants is = first ∙ ap (λ (d : MmFault). Err d) (sym is)

pub first_after_join : (start : List GroupUp) (begin : List Bool) (items longer : List GroupUp) (bits rest : List Bool) (e : Element) →
    AreFirst start begin items bits → element_at bits ≡ Ok (Some e, rest)
    → join_groups group_up_at items e ≡ Ok longer → AreFirst start begin longer rest
first_after_join start begin items longer bits rest e (inr first) read is = inr first
first_after_join start begin items longer bits rest e (inl same) read is =
    elim (join_same items e longer is) [
      | inl now ↦ inl (sym (elements_on without items longer bits rest e read now) ∙ same)
      | inr wants ↦ inr (sym same ∙ elements_refuse without items bits rest e NoMemory read wants)
    ]
