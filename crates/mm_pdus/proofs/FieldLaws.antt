-- What is read of a field is what was written, and what was written is read.
use Rattle.std.proofs.Common.{◌≡◌, ℕ, ◌^◌, ◌<◌, ◌≤◌, Bool, true, false, List, [], ◌∷◌, ◌++◌, length, take, drop, Option, Some, None, Result, Ok, refl}
use Rattle.std.proofs.Common.{sym, ap, subst, ◌∙◌, arith, ltb, length-append, append_assoc}
use Rattle.std.specs.Prelude.{IfSome}
use Rattle.std.specs.List.{flat_map}
use Rattle.std.proofs.lemmas.Bool.{le-ltb, ltb-false}
use Rattle.std.proofs.lemmas.List.{take_at, drop_at, take-append-drop, length-take-le}
use Rattle.base.proofs.Lists.{regroup_four}
use Rattle.identity.specs.Number.{num, number}
use Rattle.identity.specs.Inside.NumberLaws.{length-num, number-num, num-number, number-lt}
use Rattle.mm_pdus.specs.declared.fault.MmFault.{MmFault}
use Rattle.mm_pdus.specs.declared.fault.MmFault.TheVariants.{Short}
use Rattle.mm_pdus.specs.Syntax.{optional, AreParts, Element, element, IsElement}
use Rattle.mm_pdus.specs.Reading.{◌>>=◌, known, bit_at, clear_at, field_at, piece_at, optional_at, optionals_at, element_at}
use Rattle.mm_pdus.proofs.Steps.{bind_ok, guard_ok, ok_is, join}

pub field_takes : (w : ℕ) (bits : List Bool) (v : ℕ) (rest : List Bool) → field_at w bits ≡ Ok (v, rest) → (bits ≡ num w v ++ rest) × (v < 2 ^ w)
field_takes w bits v rest e =
    let g = guard_ok (ltb (length bits) w) Short (number (take w bits), drop w bits) (v, rest) e in
    let long : w ≤ length bits = ltb-false _ _ g.0 in
    let len : length (take w bits) ≡ w = length-take-le w bits long in
    let v-is : number (take w bits) ≡ v = ap (λ (p : ℕ × List Bool). p.0) g.1 in
    let rest-is : drop w bits ≡ rest = ap (λ (p : ℕ × List Bool). p.1) g.1 in
    let prefix : num w v ≡ take w bits = rw (← v-is) (ap (λ (n : ℕ). num n (number (take w bits))) (sym len) ∙ num-number (take w bits)) in (
      sym (take-append-drop w bits) ∙ ap (λ (t : List Bool). t ++ drop w bits) (sym prefix) ∙ ap (λ (t : List Bool). num w v ++ t) rest-is,
      rw (← v-is) (let h = number-lt (take w bits) in rw len at h),
    )

pub field_again : (w v : ℕ) (rest : List Bool) → v < 2 ^ w → field_at w (num w v ++ rest) ≡ Ok (v, rest)
field_again w v rest lt =
    let len = length-num w v in
    let long : ltb (length (num w v ++ rest)) w ≡ false = le-ltb _ _ (omega (arith, length-append (num w v) rest)) in
    rw (long, take_at (num w v) rest w len, drop_at (num w v) rest w len, number-num w v lt) refl

pub piece_takes : (w : ℕ) (bits body rest : List Bool) → piece_at w bits ≡ Ok (body, rest) → (bits ≡ body ++ rest) × (length body ≡ w)
piece_takes w bits body rest e =
    let g = guard_ok (ltb (length bits) w) Short (take w bits, drop w bits) (body, rest) e in
    let long : w ≤ length bits = ltb-false _ _ g.0 in
    let body-is : take w bits ≡ body = ap (λ (p : List Bool × List Bool). p.0) g.1 in
    let rest-is : drop w bits ≡ rest = ap (λ (p : List Bool × List Bool). p.1) g.1 in (
      sym (take-append-drop w bits) ∙ ap (λ (t : List Bool). t ++ drop w bits) body-is ∙ ap (λ (t : List Bool). body ++ t) rest-is,
      ap length (sym body-is) ∙ length-take-le w bits long,
    )

pub piece_again : (w : ℕ) (body rest : List Bool) → length body ≡ w → piece_at w (body ++ rest) ≡ Ok (body, rest)
piece_again w body rest len =
    let long : ltb (length (body ++ rest)) w ≡ false = le-ltb _ _ (omega (arith, length-append body rest)) in
    rw (long, take_at body rest w len, drop_at body rest w len) refl

pub bit_takes : (bits : List Bool) (b : Bool) (rest : List Bool) → bit_at bits ≡ Ok (b, rest) → bits ≡ b ∷ rest
bit_takes [] b rest h = absurd cc
bit_takes (c ∷ bits) b rest h = ap (λ (x : Bool × List Bool). x.0 ∷ x.1) (ok_is (c, bits) (b, rest) h)

pub clear_takes : (bits rest : List Bool) → clear_at bits ≡ Ok rest → bits ≡ false ∷ rest
clear_takes [] rest h = absurd cc
clear_takes (true ∷ bits) rest h = absurd cc
clear_takes (false ∷ bits) rest h = ap (λ (r : List Bool). false ∷ r) (ok_is bits rest h)

pub known_takes : {X : Type 0} (o : Option X) (x : X) → known o ≡ Ok x → o ≡ Some x
known_takes {X} None x e = absurd cc
known_takes {X} (Some y) x e = ap (λ (z : X). Some z) (ok_is y x e)

-- ---- parts that may be left out

pub optional_takes : (w : ℕ) (bits rest : List Bool) → optional_at w bits ≡ Ok rest → (part : Option (List Bool)) × (bits ≡ optional part ++ rest) × IfSome part (λ b. length b ≡ w)
unfolding optional_at
optional_takes w [] rest e = absurd cc
optional_takes w (false ∷ bits) rest e = (None, ap (λ (t : List Bool). false ∷ t) (ok_is bits rest e), tt)
optional_takes w (true ∷ bits) rest e =
    let a = bind_ok (piece_at w bits) (λ part. Ok part.1) rest e in
    let t = piece_takes w bits a.0.0 a.0.1 a.1 in
    (Some a.0.0, ap (λ (t : List Bool). true ∷ t) (t.0 ∙ ap (λ (r : List Bool). a.0.0 ++ r) (ok_is a.0.1 rest a.2)), t.1)

pub optional_again : (w : ℕ) (part : Option (List Bool)) (rest : List Bool) → IfSome part (λ b. length b ≡ w) → optional_at w (optional part ++ rest) ≡ Ok rest
unfolding optional_at
optional_again w None rest h = refl
optional_again w (Some body) rest h = rw (piece_again w body rest h) refl

pub optionals_take : (ws : List ℕ) (bits rest : List Bool) → optionals_at ws bits ≡ Ok rest → (parts : List (Option (List Bool))) × (bits ≡ flat_map optional parts ++ rest) × AreParts ws parts
unfolding optionals_at
optionals_take [] bits rest e = ([], ok_is bits rest e, tt)
optionals_take (w ∷ ws) bits rest e =
    let a = bind_ok (optional_at w bits) (optionals_at ws) rest e in
    let first = optional_takes w bits a.0 a.1 in
    let others = optionals_take ws a.0 rest a.2 in
    (first.0 ∷ others.0, join bits (optional first.0) a.0 (flat_map optional others.0) rest first.1 others.1, (first.2, others.2))

pub optionals_again : (ws : List ℕ) (parts : List (Option (List Bool))) (rest : List Bool) → AreParts ws parts → optionals_at ws (flat_map optional parts ++ rest) ≡ Ok rest
unfolding optionals_at
optionals_again [] [] rest h = refl
optionals_again (w ∷ ws) (part ∷ parts) rest h =
    ap (optionals_at (w ∷ ws)) (append_assoc (optional part) (flat_map optional parts) rest)
    ∙ ap (λ (r : Result (List Bool) MmFault). r >>= optionals_at ws) (optional_again w part (flat_map optional parts ++ rest) h.0)
    ∙ optionals_again ws parts rest h.1
optionals_again [] (part ∷ parts) rest h = absurd h
optionals_again (w ∷ ws) [] rest h = absurd h

-- ---- one element

made : ℕ × List Bool → List Bool × List Bool → Result (Option Element × List Bool) MmFault
made identifier body = Ok (Some (record { identifier = identifier.0; body = body.0 }), body.1)

none_some : (e : Element) → ◌≡◌ {A = Option Element} None (Some e) → ⊥
none_some e h = cc

pub element_takes : (bits : List Bool) (e : Element) (rest : List Bool) → element_at bits ≡ Ok (Some e, rest) → (bits ≡ element e ++ rest) × IsElement e
unfolding element_at made
element_takes [] e rest h = absurd cc
element_takes (false ∷ bits) e rest h = absurd (none_some e (ap (λ (x : Option Element × List Bool). x.0) (ok_is (None, bits) (Some e, rest) h)))
element_takes (true ∷ bits) e rest h =
    let a = bind_ok (field_at 4 bits) (λ identifier. field_at 11 identifier.1 >>= λ len. piece_at len.0 len.1 >>= λ body. made identifier body) (Some e, rest) h in
    let b = bind_ok (field_at 11 a.0.1) (λ len. piece_at len.0 len.1 >>= λ body. made a.0 body) (Some e, rest) a.2 in
    let d = bind_ok (piece_at b.0.0 b.0.1) (λ body. made a.0 body) (Some e, rest) b.2 in
    let t1 = field_takes 4 bits a.0.0 a.0.1 a.1 in
    let t2 = field_takes 11 a.0.1 b.0.0 b.0.1 b.1 in
    let t3 = piece_takes b.0.0 b.0.1 d.0.0 d.0.1 d.1 in
    let whole = join bits (num 4 a.0.0 ++ num 11 b.0.0) b.0.1 d.0.0 d.0.1 (join bits (num 4 a.0.0) a.0.1 (num 11 b.0.0) b.0.1 t1.0 t2.0) t3.0 in
    let len : b.0.0 ≡ length d.0.0 = sym t3.1 in
    let got : Element = record { identifier = a.0.0; body = d.0.0 } in
    let spelt : true ∷ bits ≡ element got ++ d.0.1 = ap (λ (t : List Bool). true ∷ t) (whole ∙ ap (λ (n : ℕ). ((num 4 a.0.0 ++ num 11 n) ++ d.0.0) ++ d.0.1) len) in
    let fits : IsElement got = record { identifier = t1.1; body = rw (← len) t2.1 } in
    subst (λ (x : Option Element × List Bool). IsFound (true ∷ bits) x) (ok_is (Some got, d.0.1) (Some e, rest) d.2) (spelt, fits)
  where
    IsFound : List Bool → Option Element × List Bool → Type 0
    IsFound bits (None, rest) = Unit {0}
    IsFound bits (Some e, rest) = (bits ≡ element e ++ rest) × IsElement e

pub element_ends : (bits rest : List Bool) → element_at bits ≡ Ok (None, rest) → bits ≡ false ∷ rest
unfolding element_at made
element_ends [] rest h = absurd cc
element_ends (false ∷ bits) rest h = ap (λ (x : Option Element × List Bool). false ∷ x.1) (ok_is (None, bits) (None, rest) h)
element_ends (true ∷ bits) rest h =
    let a = bind_ok (field_at 4 bits) (λ identifier. field_at 11 identifier.1 >>= λ len. piece_at len.0 len.1 >>= λ body. made identifier body) (None, rest) h in
    let b = bind_ok (field_at 11 a.0.1) (λ len. piece_at len.0 len.1 >>= λ body. made a.0 body) (None, rest) a.2 in
    let d = bind_ok (piece_at b.0.0 b.0.1) (λ body. made a.0 body) (None, rest) b.2 in
    let got : Element = record { identifier = a.0.0; body = d.0.0 } in
    absurd (none_some got (sym (ap (λ (x : Option Element × List Bool). x.0) (ok_is (Some got, d.0.1) (None, rest) d.2))))

pub element_again : (e : Element) (rest : List Bool) → IsElement e → element_at (element e ++ rest) ≡ Ok (Some e, rest)
unfolding element_at
element_again e rest fits =
    let regrouped : element e ++ rest ≡ true ∷ (num 4 e.identifier ++ (num 11 (length e.body) ++ (e.body ++ rest))) =
    ap (λ (t : List Bool). true ∷ t) (regroup_four (num 4 e.identifier) (num 11 (length e.body)) e.body rest) in
    ap element_at regrouped ∙
    rw (
      field_again 4 e.identifier (num 11 (length e.body) ++ (e.body ++ rest)) fits.identifier,
      field_again 11 (length e.body) (e.body ++ rest) fits.body,
      piece_again (length e.body) e.body rest refl,
    ) refl
