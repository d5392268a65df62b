-- The two laws for groups: what is read is spelt so, and what is spelt so is read.
use Rattle.std.proofs.Common.{◌≡◌, ℕ, zero, suc, ◌+◌, ◌^◌, ◌<◌, ◌≤◌, Bool, true, false, cond, List, [], ◌∷◌, ◌++◌, length, Result, Ok, Err, refl, sym}
use Rattle.std.proofs.Common.{ap, subst, ◌∙◌, arith, eqb, ltb, append_assoc, inl, inr}
use Rattle.std.specs.List.{flat_map, AllByRecursion}
use Rattle.std.proofs.lemmas.Bool.{eqb-true, eqb-false, ltb-false, le-ltb}
use Rattle.std.proofs.lemmas.List.{append-nil, nil_from_length}
use Rattle.base.proofs.Lists.{regroup_four, regroup_five}
use Rattle.identity.specs.Number.{num}
use Rattle.identity.specs.Identity.{identity_number, mcc_of, mnc_of, ssi_of}
use Rattle.mm_pdus.specs.declared.fault.MmFault.{MmFault}
use Rattle.mm_pdus.specs.declared.fault.MmFault.TheVariants as fault
use Rattle.mm_pdus.specs.declared.address.GroupAddress.{GroupAddress}
use Rattle.mm_pdus.specs.declared.address.GroupAddress.TheVariants.{Short, Full}
use Rattle.mm_pdus.specs.declared.group.GroupUp.{GroupUp}
use Rattle.mm_pdus.specs.declared.group.GroupUp.TheVariants as up
use Rattle.mm_pdus.specs.declared.group.GroupDown.{GroupDown}
use Rattle.mm_pdus.specs.declared.group.GroupDown.TheVariants as down
use Rattle.mm_pdus.specs.Values.{lifetime_number, lifetime_of, leave_number, leave_of, detach_number, detach_of, most_groups}
use Rattle.mm_pdus.specs.Groups.{address, IsAddress, group_up, IsGroupUp, group_down, IsGroupDown, groups_body}
use Rattle.mm_pdus.specs.Reading.{◌>>=◌, known, field_at}
use Rattle.mm_pdus.specs.GroupReading.{address_at, group_up_at, group_down_at, read_inside, groups_at, counted_at, body_at}
use Rattle.mm_pdus.proofs.Steps.{bind_ok, guard_ended, ok_is, chosen, join, err_ok}
use Rattle.mm_pdus.proofs.ValueLaws.{leave_named, leave_of-leave_number, leave_number-lt, detach_named, detach_of-detach_number, detach_number-lt}
use Rattle.mm_pdus.proofs.ValueLaws.{lifetime_number-lt, lifetime_named, lifetime_of-lifetime_number}
use Rattle.mm_pdus.proofs.FieldLaws.{field_takes, field_again, known_takes}

-- an identity's number has the three that it was made of
parts_of_number : (mcc mnc ssi : ℕ) → mcc < 2 ^ 10 → mnc < 2 ^ 14 → ssi < 2 ^ 24
    → (ssi_of (identity_number mcc mnc ssi) ≡ ssi) × (mcc_of (identity_number mcc mnc ssi) ≡ mcc) × (mnc_of (identity_number mcc mnc ssi) ≡ mnc) × (identity_number mcc mnc ssi < 2 ^ 48)
parts_of_number mcc mnc ssi a b c = (omega arith, omega arith, omega arith, omega arith)

-- and is made of them
number_of_parts : (n : ℕ) → n < 2 ^ 48 → (ssi_of n < 2 ^ 24) × (mcc_of n < 2 ^ 10) × (mnc_of n < 2 ^ 14) × (identity_number (mcc_of n) (mnc_of n) (ssi_of n) ≡ n)
number_of_parts n small = (omega arith, omega arith, omega arith, omega arith)

full_made : ℕ → ℕ → ℕ × List Bool → Result (GroupAddress × List Bool) MmFault
full_made gssi mcc mnc = Ok (Full (identity_number mcc mnc.0 gssi), mnc.1)

address_from : ℕ → ℕ × List Bool → Result (GroupAddress × List Bool) MmFault
address_from kind gssi = cond (eqb kind 0) (Ok (Short gssi.0, gssi.1)) (field_at 10 gssi.1 >>= λ mcc. field_at 14 mcc.1 >>= λ mnc. full_made gssi.0 mcc.0 mnc)

pub address_takes : (bits : List Bool) (a : GroupAddress) (rest : List Bool) → address_at bits ≡ Ok (a, rest) → (bits ≡ address a ++ rest) × IsAddress a
unfolding address_at address_from full_made
address_takes bits a rest h =
    let k = bind_ok (field_at 2 bits) (λ kind. cond (ltb 1 kind.0) (Err fault.UnsupportedAddress) (field_at 24 kind.1 >>= address_from kind.0)) (a, rest) h in
    let t0 = field_takes 2 bits k.0.0 k.0.1 k.1 in
    elim (chosen (ltb 1 k.0.0) (Err fault.UnsupportedAddress) (field_at 24 k.0.1 >>= address_from k.0.0) (Ok (a, rest)) k.2) [
      | inl unsupported ↦ absurd (err_ok {A = GroupAddress × List Bool} fault.UnsupportedAddress (a, rest) unsupported.1)
      | inr supported ↦
          let g = bind_ok (field_at 24 k.0.1) (address_from k.0.0) (a, rest) supported.1 in
          let t1 = field_takes 24 k.0.1 g.0.0 g.0.1 g.1 in
          elim (chosen (eqb k.0.0 0) (Ok (Short g.0.0, g.0.1)) (field_at 10 g.0.1 >>= λ mcc. field_at 14 mcc.1 >>= λ mnc. full_made g.0.0 mcc.0 mnc) (Ok (a, rest)) g.2) [
            | inl short ↦
                let kind : num 2 k.0.0 ≡ num 2 0 = ap (num 2) (eqb-true k.0.0 0 short.0) in
                let is : bits ≡ (num 2 0 ++ num 24 g.0.0) ++ g.0.1 = join bits (num 2 0) k.0.1 (num 24 g.0.0) g.0.1 (t0.0 ∙ ap (λ (t : List Bool). t ++ k.0.1) kind) t1.0 in
                subst (λ (x : GroupAddress × List Bool). (bits ≡ address x.0 ++ x.1) × IsAddress x.0) (ok_is (Short g.0.0, g.0.1) (a, rest) short.1) (is, t1.1)
            | inr full ↦
                let m = bind_ok (field_at 10 g.0.1) (λ mcc. field_at 14 mcc.1 >>= λ mnc. full_made g.0.0 mcc.0 mnc) (a, rest) full.1 in
                let n = bind_ok (field_at 14 m.0.1) (λ mnc. full_made g.0.0 m.0.0 mnc) (a, rest) m.2 in
                let t2 = field_takes 10 g.0.1 m.0.0 m.0.1 m.1 in
                let t3 = field_takes 14 m.0.1 n.0.0 n.0.1 n.1 in
                let gtsi = identity_number m.0.0 n.0.0 g.0.0 in
                let parts = parts_of_number m.0.0 n.0.0 g.0.0 t2.1 t3.1 t1.1 in
                let one : k.0.0 ≡ 1 = omega (arith, ltb-false 1 k.0.0 supported.0, eqb-false k.0.0 0 full.0) in
                let start : bits ≡ (num 2 1 ++ num 24 g.0.0) ++ g.0.1 = join bits (num 2 1) k.0.1 (num 24 g.0.0) g.0.1 (t0.0 ∙ ap (λ (n : ℕ). num 2 n ++ k.0.1) one) t1.0 in
                let middle : bits ≡ ((num 2 1 ++ num 24 g.0.0) ++ num 10 m.0.0) ++ m.0.1 = join bits (num 2 1 ++ num 24 g.0.0) g.0.1 (num 10 m.0.0) m.0.1 start t2.0 in
                let whole : bits ≡ (((num 2 1 ++ num 24 g.0.0) ++ num 10 m.0.0) ++ num 14 n.0.0) ++ n.0.1 =
                join bits ((num 2 1 ++ num 24 g.0.0) ++ num 10 m.0.0) m.0.1 (num 14 n.0.0) n.0.1 middle t3.0 in
                let is : bits ≡ address (Full gtsi) ++ n.0.1 = rw (parts.0, parts.1, parts.2) whole in
                subst (λ (x : GroupAddress × List Bool). (bits ≡ address x.0 ++ x.1) × IsAddress x.0) (ok_is (Full gtsi, n.0.1) (a, rest) n.2) (is, parts.3)
          ]
    ]

pub address_again : (a : GroupAddress) (rest : List Bool) → IsAddress a → address_at (address a ++ rest) ≡ Ok (a, rest)
unfolding address_at
address_again (Short gssi) rest fits =
    ap address_at (append_assoc (num 2 0) (num 24 gssi) rest) ∙ rw (field_again 2 0 (num 24 gssi ++ rest) (omega arith), field_again 24 gssi rest fits) refl
address_again (Full gtsi) rest fits =
    let parts = number_of_parts gtsi fits in
    ap address_at (regroup_five (num 2 1) (num 24 (ssi_of gtsi)) (num 10 (mcc_of gtsi)) (num 14 (mnc_of gtsi)) rest)
    ∙ rw (
      field_again 2 1 (num 24 (ssi_of gtsi) ++ (num 10 (mcc_of gtsi) ++ (num 14 (mnc_of gtsi) ++ rest))) (omega arith),
      field_again 24 (ssi_of gtsi) (num 10 (mcc_of gtsi) ++ (num 14 (mnc_of gtsi) ++ rest)) parts.0,
      field_again 10 (mcc_of gtsi) (num 14 (mnc_of gtsi) ++ rest) parts.1,
      field_again 14 (mnc_of gtsi) rest parts.2,
    )
    (ap (λ (n : ℕ). Ok (Full n, rest)) parts.3)

-- ---- one group

-- of one group, that it is read by this function exactly where it has this text
pub record IsText (T : Type 0) (group_at : List Bool → Result (T × List Bool) MmFault) (text : T → List Bool) (IsGroup : T → Type 0) : Type 0 where
  pub takes : (bits : List Bool) (g : T) (rest : List Bool) → group_at bits ≡ Ok (g, rest) → (bits ≡ text g ++ rest) × IsGroup g
  pub again : (g : T) (rest : List Bool) → IsGroup g → group_at (text g ++ rest) ≡ Ok (g, rest)

group_up_takes : (bits : List Bool) (g : GroupUp) (rest : List Bool) → group_up_at bits ≡ Ok (g, rest) → (bits ≡ group_up g ++ rest) × IsGroupUp g
unfolding group_up_at
group_up_takes [] g rest h = absurd cc
group_up_takes (true ∷ bits) g rest h =
    let r = bind_ok (field_at 2 bits) (λ number. known (leave_of number.0) >>= λ reason. address_at number.1 >>= λ a. Ok (up.Leave reason a.0, a.1)) (g, rest) h in
    let k = bind_ok (known (leave_of r.0.0)) (λ reason. address_at r.0.1 >>= λ a. Ok (up.Leave reason a.0, a.1)) (g, rest) r.2 in
    let a = bind_ok (address_at r.0.1) (λ a. Ok (up.Leave k.0 a.0, a.1)) (g, rest) k.2 in
    let t0 = field_takes 2 bits r.0.0 r.0.1 r.1 in
    let t1 = address_takes r.0.1 a.0.0 a.0.1 a.1 in
    let reason = k.0 in
    let code : num 2 r.0.0 ≡ num 2 (leave_number reason) = ap (num 2) (leave_named r.0.0 reason (known_takes (leave_of r.0.0) reason k.1)) in
    let is : true ∷ bits ≡ group_up (up.Leave reason a.0.0) ++ a.0.1 =
    ap (λ (t : List Bool). true ∷ t)
    (join bits (num 2 (leave_number reason)) r.0.1 (address a.0.0) a.0.1 (t0.0 ∙ ap (λ (t : List Bool). t ++ r.0.1) code) t1.0) in
    subst (λ (x : GroupUp × List Bool). (true ∷ bits ≡ group_up x.0 ++ x.1) × IsGroupUp x.0) (ok_is (up.Leave reason a.0.0, a.0.1) (g, rest) a.2) (is, t1.1)
group_up_takes (false ∷ bits) g rest h =
    let r = bind_ok (field_at 3 bits) (λ class. address_at class.1 >>= λ a. Ok (up.Attach class.0 a.0, a.1)) (g, rest) h in
    let a = bind_ok (address_at r.0.1) (λ a. Ok (up.Attach r.0.0 a.0, a.1)) (g, rest) r.2 in
    let t0 = field_takes 3 bits r.0.0 r.0.1 r.1 in
    let t1 = address_takes r.0.1 a.0.0 a.0.1 a.1 in
    let is : false ∷ bits ≡ group_up (up.Attach r.0.0 a.0.0) ++ a.0.1 = ap (λ (t : List Bool). false ∷ t) (join bits (num 3 r.0.0) r.0.1 (address a.0.0) a.0.1 t0.0 t1.0) in
    subst (λ (x : GroupUp × List Bool). (false ∷ bits ≡ group_up x.0 ++ x.1) × IsGroupUp x.0) (ok_is (up.Attach r.0.0 a.0.0, a.0.1) (g, rest) a.2) (is, (t0.1, t1.1))

group_up_again : (g : GroupUp) (rest : List Bool) → IsGroupUp g → group_up_at (group_up g ++ rest) ≡ Ok (g, rest)
unfolding group_up_at
group_up_again (up.Leave reason a) rest fits =
    let small = leave_number-lt reason in
    ap (λ (t : List Bool). group_up_at (true ∷ t)) (append_assoc (num 2 (leave_number reason)) (address a) rest)
    ∙ rw (field_again 2 (leave_number reason) (address a ++ rest) (omega arith), address_again a rest fits, leave_of-leave_number reason) refl
group_up_again (up.Attach class a) rest fits =
    ap (λ (t : List Bool). group_up_at (false ∷ t)) (append_assoc (num 3 class) (address a) rest)
    ∙ rw (field_again 3 class (address a ++ rest) fits.0, address_again a rest fits.1) refl

pub up_text : IsText GroupUp group_up_at group_up IsGroupUp
up_text = record { takes = group_up_takes; again = group_up_again }

group_down_takes : (bits : List Bool) (g : GroupDown) (rest : List Bool) → group_down_at bits ≡ Ok (g, rest) → (bits ≡ group_down g ++ rest) × IsGroupDown g
unfolding group_down_at
group_down_takes [] g rest h = absurd cc
group_down_takes (true ∷ bits) g rest h =
    let r = bind_ok (field_at 2 bits) (λ number. known (detach_of number.0) >>= λ reason. address_at number.1 >>= λ a. Ok (down.Detach reason a.0, a.1)) (g, rest) h in
    let k = bind_ok (known (detach_of r.0.0)) (λ reason. address_at r.0.1 >>= λ a. Ok (down.Detach reason a.0, a.1)) (g, rest) r.2 in
    let a = bind_ok (address_at r.0.1) (λ a. Ok (down.Detach k.0 a.0, a.1)) (g, rest) k.2 in
    let t0 = field_takes 2 bits r.0.0 r.0.1 r.1 in
    let t1 = address_takes r.0.1 a.0.0 a.0.1 a.1 in
    let reason = k.0 in
    let code : num 2 r.0.0 ≡ num 2 (detach_number reason) = ap (num 2) (detach_named r.0.0 reason (known_takes (detach_of r.0.0) reason k.1)) in
    let is : true ∷ bits ≡ group_down (down.Detach reason a.0.0) ++ a.0.1 =
    ap (λ (t : List Bool). true ∷ t)
    (join bits (num 2 (detach_number reason)) r.0.1 (address a.0.0) a.0.1 (t0.0 ∙ ap (λ (t : List Bool). t ++ r.0.1) code) t1.0) in
    subst (λ (x : GroupDown × List Bool). (true ∷ bits ≡ group_down x.0 ++ x.1) × IsGroupDown x.0) (ok_is (down.Detach reason a.0.0, a.0.1) (g, rest) a.2) (is, t1.1)
group_down_takes (false ∷ bits) g rest h =
    let n = bind_ok (field_at 2 bits) (λ number. known (lifetime_of number.0) >>= λ lifetime. field_at 3 number.1 >>= λ class. address_at class.1 >>=
    λ a. Ok (down.Attach lifetime class.0 a.0, a.1)) (g, rest) h in
    let l = bind_ok (known (lifetime_of n.0.0)) (λ lifetime. field_at 3 n.0.1 >>= λ class. address_at class.1 >>= λ a. Ok (down.Attach lifetime class.0 a.0, a.1)) (g, rest) n.2 in
    let r = bind_ok (field_at 3 n.0.1) (λ class. address_at class.1 >>= λ a. Ok (down.Attach l.0 class.0 a.0, a.1)) (g, rest) l.2 in
    let a = bind_ok (address_at r.0.1) (λ a. Ok (down.Attach l.0 r.0.0 a.0, a.1)) (g, rest) r.2 in
    let t0 = field_takes 2 bits n.0.0 n.0.1 n.1 in
    let t1 = field_takes 3 n.0.1 r.0.0 r.0.1 r.1 in
    let t2 = address_takes r.0.1 a.0.0 a.0.1 a.1 in
    let code : num 2 n.0.0 ≡ num 2 (lifetime_number l.0) = ap (num 2) (lifetime_named n.0.0 l.0 (known_takes (lifetime_of n.0.0) l.0 l.1)) in
    let start : bits ≡ (num 2 (lifetime_number l.0) ++ num 3 r.0.0) ++ r.0.1 =
    join bits (num 2 (lifetime_number l.0)) n.0.1 (num 3 r.0.0) r.0.1 (t0.0 ∙ ap (λ (t : List Bool). t ++ n.0.1) code) t1.0 in
    let is : false ∷ bits ≡ group_down (down.Attach l.0 r.0.0 a.0.0) ++ a.0.1 =
    ap (λ (t : List Bool). false ∷ t) (join bits (num 2 (lifetime_number l.0) ++ num 3 r.0.0) r.0.1 (address a.0.0) a.0.1 start t2.0) in
    subst (λ (x : GroupDown × List Bool). (false ∷ bits ≡ group_down x.0 ++ x.1) × IsGroupDown x.0) (ok_is (down.Attach l.0 r.0.0 a.0.0, a.0.1) (g, rest) a.2) (is, (t1.1, t2.1))

group_down_again : (g : GroupDown) (rest : List Bool) → IsGroupDown g → group_down_at (group_down g ++ rest) ≡ Ok (g, rest)
unfolding group_down_at
group_down_again (down.Detach reason a) rest fits =
    let small = detach_number-lt reason in
    ap (λ (t : List Bool). group_down_at (true ∷ t)) (append_assoc (num 2 (detach_number reason)) (address a) rest)
    ∙ rw (field_again 2 (detach_number reason) (address a ++ rest) (omega arith), address_again a rest fits, detach_of-detach_number reason) refl
group_down_again (down.Attach lifetime class a) rest fits =
    let small = lifetime_number-lt lifetime in
    ap (λ (t : List Bool). group_down_at (false ∷ t)) (regroup_four (num 2 (lifetime_number lifetime)) (num 3 class) (address a) rest)
    ∙ rw (
      field_again 2 (lifetime_number lifetime) (num 3 class ++ (address a ++ rest)) (omega arith),
      lifetime_of-lifetime_number lifetime,
      field_again 3 class (address a ++ rest) fits.0,
      address_again a rest fits.1,
    ) refl

pub down_text : IsText GroupDown group_down_at group_down IsGroupDown
down_text = record { takes = group_down_takes; again = group_down_again }

-- ---- all groups of an element

inside_takes : {X : Type 0} (r : Result X MmFault) (x : X) → read_inside r ≡ Ok x → r ≡ Ok x
inside_takes (Ok y) x h = h
inside_takes (Err f) x h = absurd cc

module _ {T : Type 0} {group_at : List Bool → Result (T × List Bool) MmFault} {text : T → List Bool} {IsGroup : T → Type 0} (law : IsText T group_at text IsGroup) where
  groups_take : (n : ℕ) (bits : List Bool) (x : List T × List Bool) → groups_at group_at n bits ≡ Ok x → (bits ≡ flat_map text x.0 ++ x.1) × (length x.0 ≡ n) × AllByRecursion IsGroup x.0
  unfolding groups_at
  groups_take zero bits x h =
      subst (λ (y : List T × List Bool). (bits ≡ flat_map text y.0 ++ y.1) × (length y.0 ≡ 0) × AllByRecursion IsGroup y.0) (ok_is ([], bits) x h) (refl, refl, tt)
  groups_take (suc n) bits x h =
      let a = bind_ok (group_at bits) (λ first. groups_at group_at n first.1 >>= λ others. Ok (first.0 ∷ others.0, others.1)) x h in
      let b = bind_ok (groups_at group_at n a.0.1) (λ others. Ok (a.0.0 ∷ others.0, others.1)) x a.2 in
      let first = law.takes bits a.0.0 a.0.1 a.1 in
      let others = groups_take n a.0.1 b.0 b.1 in
      let whole = join bits (text a.0.0) a.0.1 (flat_map text b.0.0) b.0.1 first.0 others.0 in
      subst (λ (y : List T × List Bool). (bits ≡ flat_map text y.0 ++ y.1) × (length y.0 ≡ suc n) × AllByRecursion IsGroup y.0)
      (ok_is (a.0.0 ∷ b.0.0, b.0.1) x b.2) (whole, ap suc others.1, (first.1, others.2))

  groups_again : (items : List T) (rest : List Bool) → AllByRecursion IsGroup items → groups_at group_at (length items) (flat_map text items ++ rest) ≡ Ok (items, rest)
  unfolding groups_at
  groups_again [] rest fits = refl
  groups_again (g ∷ items) rest fits =
      ap (groups_at group_at (suc (length items))) (append_assoc (text g) (flat_map text items) rest) ∙ rw (law.again g (flat_map text items ++ rest) fits.0, groups_again items rest fits.1) refl

  pub body_takes : (before : ℕ) (bits : List Bool) (items : List T) → body_at group_at before bits ≡ Ok items →
      (AllByRecursion IsGroup items × (bits ≡ groups_body text items)) × (before + length items ≤ most_groups)
  unfolding counted_at
  body_takes before bits items h =
      let last : List T × List Bool → Result (List T) MmFault = λ items. cond (eqb (length items.1) 0) (Ok items.0) (Err fault.BadElement) in
      let a = bind_ok (field_at 6 bits)
      (λ count. cond (ltb most_groups (before + count.0)) (Err fault.TooMany) (groups_at group_at count.0 count.1 >>= last)) items
      (inside_takes (counted_at group_at before bits) items h) in
      let t0 = field_takes 6 bits a.0.0 a.0.1 a.1 in
      elim (chosen (ltb most_groups (before + a.0.0)) (Err fault.TooMany) (groups_at group_at a.0.0 a.0.1 >>= last) (Ok items) a.2) [
        | inl many ↦ absurd (err_ok {A = List T} fault.TooMany items many.1)
        | inr few ↦
            let b = bind_ok (groups_at group_at a.0.0 a.0.1) last items few.1 in
            let g = guard_ended (eqb (length b.0.1) 0) fault.BadElement b.0.0 items b.2 in
            let t1 = groups_take a.0.0 a.0.1 b.0 b.1 in
            let nothing : b.0.1 ≡ [] = nil_from_length b.0.1 (eqb-true _ _ g.0) in
            let whole : bits ≡ groups_body text b.0.0 =
            t0.0 ∙ ap (λ (n : ℕ). num 6 n ++ a.0.1) (sym t1.1) ∙
            ap (λ (t : List Bool). num 6 (length b.0.0) ++ t) (t1.0 ∙ ap (λ (t : List Bool). flat_map text b.0.0 ++ t) nothing ∙
            append-nil (flat_map text b.0.0)) in
            let le = ltb-false most_groups (before + a.0.0) few.0 in
            subst (λ (v : List T). (AllByRecursion IsGroup v × (bits ≡ groups_body text v)) × (before + length v ≤ most_groups)) g.1 ((t1.2, whole), omega (arith, t1.1))
      ]

  pub body_again : (before : ℕ) (items : List T) → AllByRecursion IsGroup items → before + length items ≤ most_groups → body_at group_at before (groups_body text items) ≡ Ok items
  unfolding counted_at
  body_again before items fits le =
      let few : ltb most_groups (before + length items) ≡ false = le-ltb _ _ le in
      let read : groups_at group_at (length items) (flat_map text items) ≡ Ok (items, []) =
      ap (groups_at group_at (length items)) (sym (append-nil (flat_map text items))) ∙ groups_again items [] fits in
      rw (field_again 6 (length items) (flat_map text items) (omega arith), few, read) refl
