-- The two laws for PDUs from a radio: what is read is spelt so, and what is spelt so is read.
use Rattle.std.proofs.Common.{◌≡◌, ℕ, ◌<◌, ◌≤◌, ◌+◌, Bool, true, false, cond, List, [], ◌∷◌, ◌++◌, length, Option, Some, None, Result, Ok, Err, refl}
use Rattle.std.proofs.Common.{sym, ap, subst, ◌∙◌, arith, eqb, append_assoc, length-append, ◌⊎◌, inl, inr}
use Rattle.std.specs.Prelude.{IfOk, MatchBool}
use Rattle.std.specs.List.{flat_map, AllByRecursion}
use Rattle.std.proofs.lemmas.Bool.{eqb-true, ne_eqb, true≢false, false≢true}
use Rattle.std.proofs.lemmas.List.{append-nil}
use Rattle.base.proofs.Lists.{regroup_five}
use Rattle.identity.specs.Number.{num}
use Rattle.mm_pdus.specs.declared.fault.MmFault.{MmFault}
use Rattle.mm_pdus.specs.declared.fault.MmFault.TheVariants.{Trailing, UnknownType}
use Rattle.mm_pdus.specs.declared.update.LocationUpdateType.{LocationUpdateType}
use Rattle.mm_pdus.specs.declared.group.GroupUp.{GroupUp}
use Rattle.mm_pdus.specs.declared.uplink.MmUp.{MmUp}
use Rattle.mm_pdus.specs.declared.uplink.MmUp.TheVariants.{Demand, Detach, Groups}
use Rattle.mm_pdus.specs.Values.{update_of, update_number, mode_of, mode_bit, most_groups}
use Rattle.mm_pdus.specs.Syntax.{optional, Element, element, IsElement, Extension, extension, IsExtension}
use Rattle.mm_pdus.specs.Groups.{group_up, IsGroupUp, groups_body, groups_extension}
use Rattle.mm_pdus.specs.Uplink.{detach_widths, demand_widths, identity_uplink, GroupsOf, elements_of, SpellsUp, canon_up, demand_text, IsUp}
use Rattle.mm_pdus.specs.Reading.{◌>>=◌, known, bit_at, field_at, optional_at, extension_at, whole, Gives}
use Rattle.mm_pdus.specs.GroupReading.{group_up_at, body_at, appended_to}
use Rattle.mm_pdus.specs.UplinkReading.{join_groups, all_groups_at, groups_up_at, detach_at, demand_at, up_at, reading_up}
use Rattle.mm_pdus.proofs.Steps.{bind_ok, ok_is, chosen, join, err_ok, whole_takes, whole_after}
use Rattle.mm_pdus.proofs.ValueLaws.{update_named, update_of-update_number, update_number-lt, mode_bit-mode_of, mode_of-mode_bit}
use Rattle.mm_pdus.proofs.FieldLaws.{bit_takes, field_takes, field_again, known_takes, optional_takes, optional_again}
use Rattle.mm_pdus.proofs.ExtensionLaws.{all_into, elements_take, elements_again, elements_long, extension_takes, extension_again}
use Rattle.mm_pdus.proofs.GroupLaws.{up_text, body_takes, body_again}
use Rattle.mm_pdus.proofs.GroupSteps.{groups_body_short, group_up_short}

-- ---- the groups of all elements

pick : (b : Bool) (P Q : Type 0) → ((b ≡ true) × P) ⊎ ((b ≡ false) × Q) → MatchBool b P Q
pick true P Q (inl x) = x.1
pick false P Q (inr x) = x.1
pick true P Q (inr x) = absurd (true≢false x.0)
pick false P Q (inl x) = absurd (false≢true x.0)

groups_into : (s : List GroupUp) (es : List Element) (t : List GroupUp) → length s ≤ most_groups → all_into (join_groups group_up_at) s es ≡ Ok t
    → (more : List GroupUp) × (t ≡ s ++ more) × GroupsOf es more × (length t ≤ most_groups)
unfolding all_into
groups_into s [] t room h = let same = ok_is s t h in ([], sym same ∙ sym (append-nil s), refl, omega (arith, ap length same))
groups_into s (e ∷ es) t room h =
    let a = bind_ok (join_groups group_up_at s e) (λ u. all_into (join_groups group_up_at) u es) t h in
    elim (chosen (eqb e.identifier identity_uplink) (appended_to s (body_at group_up_at (length s) e.body)) (Ok s) (Ok a.0) a.1) [
      | inl known ↦
          let b = bind_ok (body_at group_up_at (length s) e.body) (λ more. Ok (s ++ more)) a.0 known.1 in
          let prefix = body_takes up_text (length s) e.body b.0 b.1 in
          let is = ok_is (s ++ b.0) a.0 b.2 in
          let later = groups_into a.0 es t (omega (arith, ap length is, length-append s b.0, prefix.1)) a.2 in
          let whole : t ≡ s ++ (b.0 ++ later.0) = later.1 ∙ ap (λ (u : List GroupUp). u ++ later.0) (sym is) ∙ append_assoc s b.0 later.0 in (
            b.0 ++ later.0,
            whole,
            (
              b.0,
              later.0,
              refl,
              pick (eqb e.identifier identity_uplink) (AllByRecursion IsGroupUp b.0 × (e.body ≡ groups_body group_up b.0))
                  (b.0 ≡ []) (inl (known.0, prefix.0)),
              later.2,
            ),
            later.3,
          )
      | inr other ↦
          let is = ok_is s a.0 other.1 in
          let later = groups_into a.0 es t (omega (arith, ap length is)) a.2 in (
            later.0,
            later.1 ∙ ap (λ (u : List GroupUp). u ++ later.0) (sym is),
            (
              [],
              later.0,
              refl,
              pick (eqb e.identifier identity_uplink) (Unit {0} × (e.body ≡ groups_body group_up [])) ([] ≡ [])
                  (inr (other.0, refl)),
              later.2,
            ),
            later.3,
          )
    ]

groups_again_into : (s : List GroupUp) (es : List Element) (more : List GroupUp) → GroupsOf es more → length s + length more ≤ most_groups → all_into (join_groups group_up_at) s es ≡ Ok (s ++ more)
unfolding all_into
groups_again_into s [] more none room = ap (λ (l : List GroupUp). Ok l) (sym (ap (λ (m : List GroupUp). s ++ m) none ∙ append-nil s))
groups_again_into s (e ∷ es) more (prefix, back, is, body, later) room =
    let len : length more ≡ length prefix + length back = ap length is ∙ length-append prefix back in
    let first : join_groups group_up_at s e ≡ Ok (s ++ prefix) = one (eqb e.identifier identity_uplink) refl body (omega arith) in
    ap (λ (r : Result (List GroupUp) MmFault). r >>= λ u. all_into (join_groups group_up_at) u es) first
    ∙ groups_again_into (s ++ prefix) es back later (omega (arith, length-append s prefix))
    ∙ ap (λ (l : List GroupUp). Ok l) (append_assoc s prefix back ∙ ap (λ (m : List GroupUp). s ++ m) (sym is))
  where
    one : (b : Bool) → eqb e.identifier identity_uplink ≡ b → MatchBool b (AllByRecursion IsGroupUp prefix × (e.body ≡ groups_body group_up prefix))
        (prefix ≡ []) → length s + length prefix ≤ most_groups → join_groups group_up_at s e ≡ Ok (s ++ prefix)
    one true test groups room = rw (test, groups.1, body_again up_text (length s) prefix groups.0 room) refl
    one false test none room = rw (test, none) (ap (λ (l : List GroupUp). Ok l) (sym (append-nil s)))

all_groups_take : (bits : List Bool) (items : List GroupUp) (rest : List Bool) → all_groups_at group_up_at bits ≡ Ok (items, rest)
    → (x : Option Extension) × (bits ≡ extension x ++ rest) × IsExtension [] x × GroupsOf (elements_of x) items × (length items ≤ most_groups)
unfolding all_groups_at
all_groups_take [] items rest h = absurd cc
all_groups_take (false ∷ bits) items rest h =
    let is = ok_is ([], bits) (items, rest) h in
    subst (λ (q : List GroupUp × List Bool). (x : Option Extension) × (false ∷ bits ≡ extension x ++ q.1) × IsExtension [] x ×
    GroupsOf (elements_of x) q.0 × (length q.0 ≤ most_groups)) is (None, refl, tt, refl, omega arith)
all_groups_take (true ∷ bits) items rest h =
    let es = elements_take (join_groups group_up_at) (length bits) [] bits (items, rest) h in
    let found = groups_into [] es.0 items (omega arith) es.3 in
    let groups : GroupsOf es.0 items = subst (GroupsOf es.0) (sym found.1) found.2 in
    let body : bits ≡ (flat_map element es.0 ++ false ∷ []) ++ rest = es.1 ∙ sym (append_assoc (flat_map element es.0) (false ∷ []) rest) in
    (Some (record { parts = []; elements = es.0 }), ap (λ (t : List Bool). true ∷ t) body, (tt, es.2), groups, found.3)

all_groups_again : (x : Option Extension) (items : List GroupUp) (rest : List Bool) → IsExtension [] x → GroupsOf (elements_of x) items →
    length items ≤ most_groups → all_groups_at group_up_at (extension x ++ rest) ≡ Ok (items, rest)
unfolding all_groups_at
all_groups_again None items rest fits none room = ap (λ (l : List GroupUp). Ok (l, rest)) (sym none)
all_groups_again (Some x) items rest fits groups room = by_parts x.parts refl fits
  where
    by_parts : (parts : List (Option (List Bool))) → x.parts ≡ parts → IsExtension [] (Some x) → all_groups_at group_up_at (extension (Some x) ++ rest) ≡ Ok (items, rest)
    by_parts [] none fits =
        let tail = flat_map element x.elements ++ false ∷ rest in
        let read = elements_again (join_groups group_up_at) (length tail) [] x.elements rest items (elements_long x.elements rest) fits.1
        (groups_again_into [] x.elements items groups (omega arith)) in
        let text : extension (Some x) ++ rest ≡ true ∷ tail = rw none (ap (λ (t : List Bool). true ∷ t) (append_assoc (flat_map element x.elements) (false ∷ []) rest)) in
        ap (all_groups_at group_up_at) text ∙ read
    by_parts (part ∷ parts) some fits = absurd (rw some at fits.0)

-- ---- PDUs

module _ {A : Type 0} where
  detach_takes : (bits : List Bool) (p : MmUp A) (rest : List Bool) → detach_at bits ≡ Ok (p, rest) → (text : List Bool) × (num 4 1 ++ bits ≡ text ++ rest) × SpellsUp p text
  unfolding detach_at
  detach_takes bits p rest h =
      let a = bind_ok (extension_at detach_widths bits) (λ rest. Ok (Detach, rest)) (p, rest) h in
      let x = extension_takes detach_widths bits a.0 a.1 in
      let text = num 4 1 ++ extension x.0 in
      let is : num 4 1 ++ bits ≡ text ++ a.0 = join (num 4 1 ++ bits) (num 4 1) bits (extension x.0) a.0 refl x.1 in
      subst (λ (q : MmUp A × List Bool). (text : List Bool) × (num 4 1 ++ bits ≡ text ++ q.1) × SpellsUp q.0 text) (ok_is (Detach, a.0) (p, rest) a.2) (text, is, (x.0, x.2, refl))

  demand_takes : (bits : List Bool) (p : MmUp A) (rest : List Bool) → demand_at bits ≡ Ok (p, rest) → (text : List Bool) × (num 4 2 ++ bits ≡ text ++ rest) × SpellsUp p text
  unfolding demand_at
  demand_takes bits p rest h =
      let fourth : LocationUpdateType → List Bool → Result (MmUp A × List Bool) MmFault = λ update rest. Ok (Demand update, rest) in
      let third : LocationUpdateType → List Bool → Result (MmUp A × List Bool) MmFault = λ update rest. extension_at demand_widths rest >>= fourth update in
      let second : LocationUpdateType → Bool × List Bool → Result (MmUp A × List Bool) MmFault = λ update append. optional_at 10 append.1 >>= third update in
      let a = bind_ok (field_at 3 bits) (λ number. known (update_of number.0) >>= λ update. bit_at number.1 >>= second update) (p, rest) h in
      let k = bind_ok (known (update_of a.0.0)) (λ update. bit_at a.0.1 >>= second update) (p, rest) a.2 in
      let update = k.0 in
      let b = bind_ok (bit_at a.0.1) (second update) (p, rest) k.2 in
      let d = bind_ok (optional_at 10 b.0.1) (third update) (p, rest) b.2 in
      let e = bind_ok (extension_at demand_widths d.0) (fourth update) (p, rest) d.2 in
      let t1 = field_takes 3 bits a.0.0 a.0.1 a.1 in
      let t2 = bit_takes a.0.1 b.0.0 b.0.1 b.1 in
      let t3 = optional_takes 10 b.0.1 d.0 d.1 in
      let t4 = extension_takes demand_widths d.0 e.0 e.1 in
      let code : num 3 a.0.0 ≡ num 3 (update_number update) = ap (num 3) (update_named a.0.0 update (known_takes (update_of a.0.0) update k.1)) in
      let text = num 4 2 ++ num 3 (update_number update) ++ b.0.0 ∷ optional t3.0 ++ extension t4.0 in
      let start : num 4 2 ++ bits ≡ (num 4 2 ++ num 3 (update_number update)) ++ a.0.1 =
      join (num 4 2 ++ bits) (num 4 2) bits (num 3 (update_number update)) a.0.1 refl (t1.0 ∙ ap (λ (t : List Bool). t ++ a.0.1) code) in
      let middle : a.0.1 ≡ (b.0.0 ∷ optional t3.0) ++ d.0 = t2 ∙ ap (λ (t : List Bool). b.0.0 ∷ t) t3.1 in
      let is : num 4 2 ++ bits ≡ text ++ e.0 = join (num 4 2 ++ bits) (num 4 2 ++ num 3 (update_number update) ++ b.0.0 ∷ optional t3.0) d.0
      (extension t4.0) e.0 (join (num 4 2 ++ bits) (num 4 2 ++ num 3 (update_number update)) a.0.1 (b.0.0 ∷ optional t3.0) d.0 start middle) t4.1
      in
      subst (λ (q : MmUp A × List Bool). (text : List Bool) × (num 4 2 ++ bits ≡ text ++ q.1) × SpellsUp q.0 text)
      (ok_is (Demand update, e.0) (p, rest) e.2) (text, is, (b.0.0, t3.0, t4.0, t3.2, t4.2, refl))

  groups_takes : (bits : List Bool) (p : MmUp A) (rest : List Bool) → groups_up_at group_up_at bits ≡ Ok (p, rest) → (text : List Bool) × (num 4 7 ++ bits ≡ text ++ rest) × SpellsUp p text
  unfolding groups_up_at
  groups_takes bits p rest h =
      let r = bind_ok (bit_at bits) (λ report. bit_at report.1 >>= λ mode. all_groups_at group_up_at mode.1 >>= λ items. Ok (Groups (mode_of mode.0) items.0, items.1)) (p, rest) h in
      let m = bind_ok (bit_at r.0.1) (λ mode. all_groups_at group_up_at mode.1 >>= λ items. Ok (Groups (mode_of mode.0) items.0, items.1)) (p, rest) r.2 in
      let g = bind_ok (all_groups_at group_up_at m.0.1) (λ items. Ok (Groups (mode_of m.0.0) items.0, items.1)) (p, rest) m.2 in
      let t1 = bit_takes bits r.0.0 r.0.1 r.1 in
      let t2 = bit_takes r.0.1 m.0.0 m.0.1 m.1 in
      let t3 = all_groups_take m.0.1 g.0.0 g.0.1 g.1 in
      let mode = mode_of m.0.0 in
      let fields : bits ≡ (r.0.0 ∷ mode_bit mode ∷ []) ++ m.0.1 = t1 ∙ ap (λ (t : List Bool). r.0.0 ∷ t) (t2 ∙ ap (λ (b : Bool). b ∷ m.0.1) (sym (mode_bit-mode_of m.0.0))) in
      let body : bits ≡ (r.0.0 ∷ mode_bit mode ∷ extension t3.0) ++ g.0.1 = join bits (r.0.0 ∷ mode_bit mode ∷ []) m.0.1 (extension t3.0) g.0.1 fields t3.1 in
      let text = num 4 7 ++ r.0.0 ∷ mode_bit mode ∷ extension t3.0 in
      let is : num 4 7 ++ bits ≡ text ++ g.0.1 = join (num 4 7 ++ bits) (num 4 7) bits (r.0.0 ∷ mode_bit mode ∷ extension t3.0) g.0.1 refl body in
      subst (λ (q : MmUp A × List Bool). (text : List Bool) × (num 4 7 ++ bits ≡ text ++ q.1) × SpellsUp q.0 text)
      (ok_is (Groups mode g.0.0, g.0.1) (p, rest) g.2) (text, is, (r.0.0, t3.0, t3.2, t3.3, t3.4, refl))

  up_takes : (bits : List Bool) (p : MmUp A) (rest : List Bool) → up_at group_up_at bits ≡ Ok (p, rest) → (text : List Bool) × (bits ≡ text ++ rest) × SpellsUp p text
  unfolding up_at
  up_takes bits p rest h =
      let a = bind_ok (field_at 4 bits)
      (λ kind. cond (eqb kind.0 1) (detach_at kind.1)
      (cond (eqb kind.0 2) (demand_at kind.1) (cond (eqb kind.0 7) (groups_up_at group_up_at kind.1) (Err UnknownType)))) (p, rest) h in
      let t = field_takes 4 bits a.0.0 a.0.1 a.1 in
      let is_kind : (k : ℕ) → eqb a.0.0 k ≡ true → num 4 k ++ a.0.1 ≡ bits = λ k e. ap (λ (n : ℕ). num 4 n ++ a.0.1) (sym (eqb-true a.0.0 k e)) ∙ sym t.0 in
      elim (chosen (eqb a.0.0 1) (detach_at a.0.1) (cond (eqb a.0.0 2) (demand_at a.0.1) (cond (eqb a.0.0 7) (groups_up_at group_up_at a.0.1) (Err UnknownType))) (Ok (p, rest)) a.2) [
        | inl one ↦ let f = detach_takes a.0.1 p rest one.1 in (f.0, sym (is_kind 1 one.0) ∙ f.1, f.2)
        | inr other ↦ elim (chosen (eqb a.0.0 2) (demand_at a.0.1) (cond (eqb a.0.0 7) (groups_up_at group_up_at a.0.1) (Err UnknownType)) (Ok (p, rest)) other.1) [
          | inl two ↦ let f = demand_takes a.0.1 p rest two.1 in (f.0, sym (is_kind 2 two.0) ∙ f.1, f.2)
          | inr last ↦ elim (chosen (eqb a.0.0 7) (groups_up_at group_up_at a.0.1) (Err UnknownType) (Ok (p, rest)) last.1) [
            | inl seven ↦ let f = groups_takes a.0.1 p rest seven.1 in (f.0, sym (is_kind 7 seven.0) ∙ f.1, f.2)
            | inr none ↦ absurd (err_ok {A = MmUp A × List Bool} UnknownType (p, rest) none.1)
          ]
        ]
      ]

  pub up_again : (p : MmUp A) (bits rest : List Bool) → SpellsUp p bits → up_at group_up_at (bits ++ rest) ≡ Ok (p, rest)
  unfolding up_at detach_at demand_at groups_up_at
  up_again Detach bits rest (x, fits, is) =
      ap (λ (t : List Bool). up_at group_up_at (t ++ rest)) is
      ∙ ap (up_at group_up_at) (append_assoc (num 4 1) (extension x) rest)
      ∙ rw (field_again 4 1 (extension x ++ rest) (omega arith), extension_again detach_widths x rest fits) refl
  up_again (Demand update) bits rest (append, ciphering, x, key, fits, is) =
      let back = update_of-update_number update in
      let small = update_number-lt update in
      ap (λ (t : List Bool). up_at group_up_at (t ++ rest)) is
      ∙ ap (up_at group_up_at) (regroup_five (num 4 2) (num 3 (update_number update)) (append ∷ optional ciphering) (extension x) rest)
      ∙ rw (
        field_again 4 2 (num 3 (update_number update) ++ (append ∷ (optional ciphering ++ (extension x ++ rest)))) (omega arith),
        field_again 3 (update_number update) (append ∷ (optional ciphering ++ (extension x ++ rest))) (omega arith),
        optional_again 10 ciphering (extension x ++ rest) key,
        extension_again demand_widths x rest fits,
        back,
      ) refl
  up_again (Groups mode items) bits rest (report, x, fits, groups, room, is) =
      ap (λ (t : List Bool). up_at group_up_at (t ++ rest)) is
      ∙ ap (up_at group_up_at) (append_assoc (num 4 7) (report ∷ mode_bit mode ∷ extension x) rest)
      ∙ rw (field_again 4 7 (report ∷ mode_bit mode ∷ (extension x ++ rest)) (omega arith), mode_of-mode_bit mode, all_groups_again x items rest fits groups room) refl

  reading_takes : (bits : List Bool) (p : MmUp A) → reading_up bits ≡ Ok p → SpellsUp p bits
  unfolding reading_up
  reading_takes bits p h =
      let t = up_takes bits p [] (whole_takes (up_at group_up_at bits) p h) in
      subst (SpellsUp p) (sym (t.1 ∙ append-nil t.0)) t.2

  pub reading_again : (bits : List Bool) (p : MmUp A) → SpellsUp p bits → reading_up bits ≡ Ok p
  unfolding reading_up
  reading_again bits p spells = ap whole (ap (up_at group_up_at) (sym (append-nil bits)) ∙ up_again p bits [] spells)

  pub is_spelt : (bits : List Bool) (r : Result (MmUp A) MmFault) → Gives r (reading_up bits) → IfOk r (λ p. SpellsUp p bits)
  is_spelt bits (Ok p) given = reading_takes bits p given
  is_spelt bits (Err f) given = tt

  pub is_found : (bits : List Bool) (r : Result (MmUp A) MmFault) → Gives r (reading_up bits) → (p : MmUp A) → SpellsUp p bits → Gives r (Ok p)
  is_found bits r given p spells = subst (Gives r) (reading_again bits p spells) given

  pub trailing : (p : MmUp A) (bits rest : List Bool) (b : Bool) → SpellsUp p bits → reading_up {A = A} (bits ++ b ∷ rest) ≡ Err Trailing
  unfolding reading_up
  trailing p bits rest b spells = ap whole (up_again p bits (b ∷ rest) spells) ∙ whole_after p b rest

  -- ---- the written form

  pub canon_spells : (p : MmUp A) → IsUp p → SpellsUp p (canon_up p)
  canon_spells Detach fits = (None, tt, refl)
  canon_spells (Demand update) fits =
      let is : demand_text update ≡ num 4 2 ++ num 3 (update_number update) ++ false ∷ false ∷ [] ++ false ∷ [] =
      sym (append_assoc (num 4 2 ++ num 3 (update_number update)) (false ∷ false ∷ []) (false ∷ [])) in
      (false, None, None, tt, tt, is)
  canon_spells (Groups mode []) fits = (false, None, tt, refl, fits.0, refl)
  canon_spells (Groups mode (g ∷ items)) fits =
      let body = groups_body group_up (g ∷ items) in
      let is_element : IsElement (record { identifier = identity_uplink; body = body }) = record { identifier = omega arith; body = groups_body_short group_up (g ∷ items) group_up_short fits.0 } in
      (false, groups_extension group_up identity_uplink (g ∷ items), (tt, (is_element, tt)), (g ∷ items, [], sym (append-nil (g ∷ items)), (fits.1, refl), refl), fits.0, refl)

  pub read_back : (p : MmUp A) → IsUp p → reading_up (canon_up p) ≡ Ok p
  read_back p fits = reading_again (canon_up p) p (canon_spells p fits)

module _ (A : Type 0) where
  pub one_value : (p q : MmUp A) (bits : List Bool) → SpellsUp p bits → SpellsUp q bits → p ≡ q
  one_value p q bits a b = ok_is p q (sym (reading_again bits p a) ∙ reading_again bits q b)

  pub other_type : (kind : ℕ) (rest : List Bool) → kind < 16 → (kind ≡ 1 → ⊥) → (kind ≡ 2 → ⊥) → (kind ≡ 7 → ⊥) → reading_up {A = A} (num 4 kind ++ rest) ≡ Err UnknownType
  unfolding reading_up up_at
  other_type kind rest small detach demand groups = rw (field_again 4 kind rest small, ne_eqb kind 1 detach, ne_eqb kind 2 demand, ne_eqb kind 7 groups) refl
