-- Groups, one after the other, as loops read and write them.
use Rattle.std.proofs.Common.{◌≡◌, ℕ, suc, ◌-◌, ◌+◌, ◌*◌, ◌^◌, ◌≤◌, ◌<◌, Bool, true, false, List, [], ◌∷◌, ◌++◌, length, Result, Ok, Err, refl, sym, ap, ◌∙◌, append_assoc, length-append, arith}
use Rattle.std.specs.List.{flat_map}
use Rattle.std.proofs.lemmas.List.{append-nil}
use Rattle.identity.specs.Number.{num}
use Rattle.identity.specs.Inside.NumberLaws.{length-num}
use Rattle.identity.specs.Identity.{mcc_of, mnc_of, ssi_of}
use Rattle.mm_pdus.specs.declared.fault.MmFault.{MmFault}
use Rattle.mm_pdus.specs.Reading.{◌>>=◌, made_element}
use Rattle.mm_pdus.specs.Syntax.{element}
use Rattle.mm_pdus.specs.declared.address.GroupAddress.{GroupAddress}
use Rattle.mm_pdus.specs.declared.address.GroupAddress.TheVariants.{Short, Full}
use Rattle.mm_pdus.specs.declared.group.GroupUp.{GroupUp}
use Rattle.mm_pdus.specs.declared.group.GroupUp.TheVariants as up
use Rattle.mm_pdus.specs.declared.group.GroupDown.{GroupDown}
use Rattle.mm_pdus.specs.declared.group.GroupDown.TheVariants as down
use Rattle.mm_pdus.specs.Values.{lifetime_number, leave_number, detach_number, most_groups}
use Rattle.mm_pdus.specs.Groups.{address, group_up, group_down, groups_body}
use Rattle.mm_pdus.specs.GroupReading.{groups_at, with_prefix}

module _ {T : Type 0} (group_at : List Bool → Result (T × List Bool) MmFault) where
  regroup : (prefix : List T) (n : T) (read : Result (List T × List Bool) MmFault) → with_prefix prefix (read >>= λ x. Ok (n ∷ x.0, x.1)) ≡ with_prefix (prefix ++ n ∷ []) read
  regroup prefix n (Ok x) = ap (λ (ns : List T). Ok (ns, x.1)) (sym (append_assoc prefix (n ∷ []) x.0))
  regroup prefix n (Err f) = refl

  pub goes_on : (prefix : List T) (count i : ℕ) (bits : List Bool) (n : T) (after : List Bool) → i < count → group_at bits ≡ Ok (n, after)
      → with_prefix (prefix ++ n ∷ []) (groups_at group_at (count - (i + 1)) after) ≡ with_prefix prefix (groups_at group_at (count - i) bits)
  unfolding groups_at
  goes_on prefix count i bits n after lt h =
      let k : count - i ≡ suc (count - (i + 1)) = omega arith in
      let one : with_prefix prefix (groups_at group_at (count - i) bits) ≡ with_prefix (prefix ++ n ∷ [])
      (groups_at group_at (count - (i + 1)) after) = rw (k, h) (regroup prefix n (groups_at group_at (count - (i + 1)) after)) in
      sym one

  pub ends : (f : MmFault) (prefix : List T) (count i : ℕ) (bits : List Bool) → i < count → group_at bits ≡ Err f → with_prefix prefix (groups_at group_at (count - i) bits) ≡ Err f
  unfolding groups_at
  ends f prefix count i bits lt h = let k : count - i ≡ suc (count - (i + 1)) = omega arith in rw (k, h) refl

  pub is_done : (prefix : List T) (count i : ℕ) (bits : List Bool) → count ≤ i → with_prefix prefix (groups_at group_at (count - i) bits) ≡ Ok (prefix, bits)
  unfolding groups_at
  is_done prefix count i bits le = let k : count - i ≡ 0 = omega arith in rw k (ap (λ (ns : List T). Ok (ns, bits)) (append-nil prefix))

-- ---- lengths

pub length-address_short : (gssi : ℕ) → length (num 2 0 ++ num 24 gssi) ≡ 26
length-address_short gssi = omega (arith, length-append (num 2 0) (num 24 gssi), length-num 2 0, length-num 24 gssi)

pub length-address_full : (gtsi : ℕ) → length (num 2 1 ++ num 24 (ssi_of gtsi) ++ num 10 (mcc_of gtsi) ++ num 14 (mnc_of gtsi)) ≡ 50
length-address_full gtsi =
    omega (
      arith,
      length-append (num 2 1 ++ num 24 (ssi_of gtsi) ++ num 10 (mcc_of gtsi)) (num 14 (mnc_of gtsi)),
      length-append (num 2 1 ++ num 24 (ssi_of gtsi)) (num 10 (mcc_of gtsi)),
      length-append (num 2 1) (num 24 (ssi_of gtsi)),
      length-num 2 1,
      length-num 24 (ssi_of gtsi),
      length-num 10 (mcc_of gtsi),
      length-num 14 (mnc_of gtsi),
    )

-- a bit, a number and what follows
pub length_one : (w v : ℕ) (b : Bool) (rest : List Bool) → length (b ∷ num w v ++ rest) ≡ (w + 1) + length rest
length_one w v b rest = omega (arith, length-append (num w v) rest, length-num w v)

-- a bit, two numbers and what follows
pub length_two : (w v x y : ℕ) (b : Bool) (rest : List Bool) → length (b ∷ num w v ++ num x y ++ rest) ≡ (w + x + 1) + length rest
length_two w v x y b rest = omega (arith, length-append (num w v ++ num x y) rest, length-append (num w v) (num x y), length-num w v, length-num x y)

pub length-groups_body : {T : Type 0} (text : T → List Bool) (items : List T) → length (groups_body text items) ≡ 6 + length (flat_map text items)
length-groups_body text items = omega (arith, length-append (num 6 (length items)) (flat_map text items), length-num 6 (length items))

address_short : (a : GroupAddress) → length (address a) ≤ 50
address_short (Short gssi) = omega (arith, length-address_short gssi)
address_short (Full gtsi) = omega (arith, length-address_full gtsi)

pub group_up_short : (g : GroupUp) → length (group_up g) ≤ 56
group_up_short (up.Attach class a) = let h = address_short a in omega (arith, length_one 3 class false (address a))
group_up_short (up.Leave reason a) = let h = address_short a in omega (arith, length_one 2 (leave_number reason) true (address a))

pub group_down_short : (g : GroupDown) → length (group_down g) ≤ 56
group_down_short (down.Attach lifetime class a) = let h = address_short a in omega (arith, length_two 2 (lifetime_number lifetime) 3 class false (address a))
group_down_short (down.Detach reason a) = let h = address_short a in omega (arith, length_one 2 (detach_number reason) true (address a))

groups_short : {T : Type 0} (text : T → List Bool) (items : List T) → ((g : T) → length (text g) ≤ 56) → length (flat_map text items) ≤ 56 * length items
groups_short text [] each = omega arith
groups_short text (g ∷ items) each = let a = each g in let b = groups_short text items each in omega (arith, length-append (text g) (flat_map text items))

-- the body of an element with all groups has at most 11 bits of length
pub groups_body_short : {T : Type 0} (text : T → List Bool) (items : List T) → ((g : T) → length (text g) ≤ 56) → length items ≤ most_groups → length (groups_body text items) < 2 ^ 11
groups_body_short text items each few = let h = groups_short text items each in omega (arith, length-groups_body text items)

-- ---- what writes give

regroup6 : (w t a b c d : List Bool) → ((((w ++ t) ++ a) ++ b) ++ c) ++ d ≡ w ++ (t ++ ((a ++ b) ++ (c ++ d)))
regroup6 w t a b c d = simp append_assoc

pub element_written : {T : Type 0} (text : T → List Bool) (identifier len : ℕ) (items : List T) (w0 w1 w2 w3 w4 w5 : List Bool) →
    w1 ≡ w0 ++ true ∷ [] → w2 ≡ w1 ++ num 4 identifier → w3 ≡ w2 ++ num 11 len → w4 ≡ w3 ++ num 6 (length items)
    → len ≡ length (groups_body text items) → w5 ≡ w4 ++ flat_map text items → w5 ≡ w0 ++ element (made_element identifier (groups_body text items))
element_written text identifier len items w0 w1 w2 w3 w4 w5 e1 e2 e3 e4 is_len e5 =
    let one : w5 ≡ ((((w0 ++ true ∷ []) ++ num 4 identifier) ++ num 11 len) ++ num 6 (length items)) ++ flat_map text items = cc in
    one ∙ regroup6 w0 (true ∷ []) (num 4 identifier) (num 11 len) (num 6 (length items)) (flat_map text items)
    ∙ ap (λ (n : ℕ). w0 ++ true ∷ ((num 4 identifier ++ num 11 n) ++ groups_body text items)) is_len
