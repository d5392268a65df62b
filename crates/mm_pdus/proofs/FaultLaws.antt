-- No reading of bits finds out of memory.
use Rattle.std.proofs.Common.{ℕ, zero, suc, Bool, true, false, cond, List, [], ◌∷◌, Option, Some, None, Result, Ok, Err}
use Rattle.std.specs.Prelude.{◌≢◌}
use Rattle.mm_pdus.specs.declared.fault.MmFault.{MmFault}
use Rattle.mm_pdus.specs.declared.fault.MmFault.TheVariants.{Short, Trailing, UnknownType, BadElement, UnsupportedAddress, TooMany, NoMemory}
use Rattle.mm_pdus.specs.declared.group.GroupUp.{GroupUp}
use Rattle.mm_pdus.specs.Values.{update_of, accept_of, lifetime_of, leave_of, detach_of}
use Rattle.mm_pdus.specs.Syntax.{Element}
use Rattle.mm_pdus.specs.Uplink.{detach_widths, demand_widths}
use Rattle.mm_pdus.specs.Reading.{◌>>=◌, known, needs, bit_at, clear_at, field_at, piece_at, optional_at, optionals_at, element_at, elements_at, ignore, extension_at, whole}
use Rattle.mm_pdus.specs.GroupReading.{address_at, group_up_at, group_down_at, inside, read_inside, groups_at, counted_at, body_at}
use Rattle.mm_pdus.specs.UplinkReading.{join_groups, all_groups_at, detach_at, demand_at, groups_up_at, up_at, reading_up}
use Rattle.mm_pdus.specs.DownlinkReading.{one_element_at, answers_at, accept_at, reject_at, acknowledge_at, down_at, reading_down}

abbrev OfBits : {X : Type 0} → Result X MmFault → Type 0
OfBits r = r ≢ Err NoMemory

-- ---- steps

ends : {X : Type 0} (x : X) → OfBits (Ok x)
ends x e = cc

fails : {X : Type 0} (f : MmFault) → (f ≢ NoMemory) → OfBits {X = X} (Err f)
fails f other e = other cc

short : {X : Type 0} → OfBits {X = X} (Err Short)
short e = cc

trailing : {X : Type 0} → OfBits {X = X} (Err Trailing)
trailing e = cc

unknown : {X : Type 0} → OfBits {X = X} (Err UnknownType)
unknown e = cc

bad : {X : Type 0} → OfBits {X = X} (Err BadElement)
bad e = cc

unsupported : {X : Type 0} → OfBits {X = X} (Err UnsupportedAddress)
unsupported e = cc

many : {X : Type 0} → OfBits {X = X} (Err TooMany)
many e = cc

either : {X : Type 0} (b : Bool) (x y : Result X MmFault) → OfBits x → OfBits y → OfBits (cond b x y)
either true x y one other = one
either false x y one other = other

after : {X Y : Type 0} (r : Result X MmFault) (f : X → Result Y MmFault) → OfBits r → ((x : X) → OfBits (f x)) → OfBits (r >>= f)
after (Ok x) f read each = each x
after (Err d) f read each = λ e. read cc

-- ---- fields

known_of_bits : {X : Type 0} (x : Option X) → OfBits (known x)
known_of_bits (Some x) e = cc
known_of_bits None e = cc

needs_of_bits : (b : Bool) → OfBits (needs b)
needs_of_bits true e = cc
needs_of_bits false e = cc

bit : (bits : List Bool) → OfBits (bit_at bits)
bit [] e = cc
bit (b ∷ bits) e = cc

clear : (bits : List Bool) → OfBits (clear_at bits)
clear [] e = cc
clear (true ∷ bits) e = cc
clear (false ∷ bits) e = cc

field : (w : ℕ) (bits : List Bool) → OfBits (field_at w bits)
field w bits = either _ _ _ short (ends _)

piece : (w : ℕ) (bits : List Bool) → OfBits (piece_at w bits)
piece w bits = either _ _ _ short (ends _)

optional : (w : ℕ) (bits : List Bool) → OfBits (optional_at w bits)
unfolding optional_at
optional w bits = after _ _ (bit bits) (λ there. either _ _ _ (after _ _ (piece w there.1) (λ part. ends _)) (ends _))

optionals : (ws : List ℕ) (bits : List Bool) → OfBits (optionals_at ws bits)
unfolding optionals_at
optionals [] bits = ends _
optionals (w ∷ ws) bits = after _ _ (optional w bits) (λ rest. optionals ws rest)

element : (bits : List Bool) → OfBits (element_at bits)
unfolding element_at
element bits =
    after _ _ (bit bits) (λ more. either _ _ _ (after _ _ (field 4 more.1) (λ identifier. after _ _ (field 11 identifier.1) (λ len. after _ _ (piece len.0 len.1) (λ body. ends _)))) (ends _))

module _ {S : Type 0} (into : S → Element → Result S MmFault) (each : (s : S) (e : Element) → OfBits (into s e)) where
  abbrev next_into : ℕ → S → Option Element × List Bool → Result (S × List Bool) MmFault
  next_into n s next = elim next.0 [ Some e ↦ into s e >>= λ t. elements_at into n t next.1 | None ↦ Ok (s, next.1) ]

  elements : (n : ℕ) (s : S) (bits : List Bool) → OfBits (elements_at into n s bits)
  unfolding elements_at
  elements zero s bits = short
  elements (suc n) s bits = after (element_at bits) (next_into n s) (element bits) (λ next. by (elements n) next.0 next.1)
    where
      by : ((t : S) (rest : List Bool) → OfBits (elements_at into n t rest)) → (next : Option Element) (rest : List Bool) → OfBits (next_into n s (next, rest))
      by later (Some e) rest = after _ _ (each s e) (λ t. later t rest)
      by later None rest = ends _

extension : (ws : List ℕ) (bits : List Bool) → OfBits (extension_at ws bits)
unfolding extension_at
extension ws bits =
    after _ _ (bit bits) (λ more. either _ _ _ (after _ _ (optionals ws more.1) (λ rest. after _ _ (elements ignore (λ s e. ends _) _ _ rest) (λ ended. ends _))) (ends _))

all_of_bits : {X : Type 0} (r : Result (X × List Bool) MmFault) → OfBits r → OfBits (whole r)
all_of_bits r read = after _ _ read (λ p. either _ _ _ (ends _) trailing)

-- ---- groups

address : (bits : List Bool) → OfBits (address_at bits)
unfolding address_at
address bits =
    after _ _ (field 2 bits)
    (λ kind. either _ _ _ unsupported
    (after _ _ (field 24 kind.1) (λ gssi. either _ _ _ (ends _) (after _ _ (field 10 gssi.1) (λ mcc. after _ _ (field 14 mcc.1) (λ mnc. ends _))))))

group_up : (bits : List Bool) → OfBits (group_up_at bits)
unfolding group_up_at
group_up bits =
    after _ _ (bit bits) (λ leaves. either _ _ _
    (after _ _ (field 2 leaves.1) (λ number. after _ _ (known_of_bits (leave_of number.0)) (λ reason. after _ _ (address number.1) (λ a. ends _))))
    (after _ _ (field 3 leaves.1) (λ class. after _ _ (address class.1) (λ a. ends _))))

group_down : (bits : List Bool) → OfBits (group_down_at bits)
unfolding group_down_at
group_down bits =
    after _ _ (bit bits) (λ detached. either _ _ _
    (after _ _ (field 2 detached.1) (λ number. after _ _ (known_of_bits (detach_of number.0)) (λ reason. after _ _ (address number.1) (λ a. ends _))))
    (after _ _ (field 2 detached.1) (λ number. after _ _ (known_of_bits (lifetime_of number.0)) (λ lifetime. after _ _ (field 3 number.1) (λ class. after _ _ (address class.1) (λ a. ends _))))))

inside_of_bits : (f : MmFault) → (f ≢ NoMemory) → inside f ≢ NoMemory
inside_of_bits Short other e = cc
inside_of_bits Trailing other e = cc
inside_of_bits UnknownType other e = cc
inside_of_bits BadElement other e = cc
inside_of_bits UnsupportedAddress other e = cc
inside_of_bits TooMany other e = cc
inside_of_bits NoMemory other e = other e

inside_read : {X : Type 0} (r : Result X MmFault) → OfBits r → OfBits (read_inside r)
inside_read (Ok x) read = ends x
inside_read (Err f) read = fails (inside f) (inside_of_bits f (λ e. read cc))

module _ {T : Type 0} (group_at : List Bool → Result (T × List Bool) MmFault) (each : (bits : List Bool) → OfBits (group_at bits)) where
  groups : (n : ℕ) (bits : List Bool) → OfBits (groups_at group_at n bits)
  unfolding groups_at
  groups zero bits = ends _
  groups (suc n) bits = after _ _ (each bits) (λ first. after _ _ (groups n first.1) (λ others. ends _))

  counted : (before : ℕ) (bits : List Bool) → OfBits (counted_at group_at before bits)
  unfolding counted_at
  counted before bits = after _ _ (field 6 bits) (λ count. either _ _ _ many (after _ _ (groups count.0 count.1) (λ items. either _ _ _ (ends _) bad)))

  body : (before : ℕ) (bits : List Bool) → OfBits (body_at group_at before bits)
  body before bits = inside_read _ (counted before bits)

-- ---- PDUs from a radio

join_of_bits : (items : List GroupUp) (e : Element) → OfBits (join_groups group_up_at items e)
join_of_bits items e = either _ _ _ (after _ _ (body group_up_at group_up _ e.body) (λ more. ends _)) (ends _)

all_groups : (bits : List Bool) → OfBits (all_groups_at group_up_at bits)
unfolding all_groups_at
all_groups bits = after _ _ (bit bits) (λ more. either _ _ _ (elements (join_groups group_up_at) join_of_bits _ _ more.1) (ends _))

module _ {A : Type 0} where
  detach : (bits : List Bool) → OfBits (detach_at {A = A} bits)
  unfolding detach_at
  detach bits = after _ _ (extension detach_widths bits) (λ rest. ends _)

  demand : (bits : List Bool) → OfBits (demand_at {A = A} bits)
  unfolding demand_at
  demand bits =
      after _ _ (field 3 bits)
      (λ number. after _ _ (known_of_bits (update_of number.0))
      (λ update. after _ _ (bit number.1)
      (λ append. after _ _ (optional 10 append.1) (λ rest. after _ _ (extension demand_widths rest) (λ rest. ends _)))))

  groups_up : (bits : List Bool) → OfBits (groups_up_at {A = A} group_up_at bits)
  unfolding groups_up_at
  groups_up bits = after _ _ (bit bits) (λ report. after _ _ (bit report.1) (λ mode. after _ _ (all_groups mode.1) (λ items. ends _)))

  up : (bits : List Bool) → OfBits (up_at {A = A} group_up_at bits)
  unfolding up_at
  up bits = after _ _ (field 4 bits) (λ kind. either _ _ _ (detach kind.1) (either _ _ _ (demand kind.1) (either _ _ _ (groups_up kind.1) unknown)))

  pub up_of_bits : (bits : List Bool) → reading_up {A = A} bits ≢ Err NoMemory
  unfolding reading_up
  up_of_bits bits = all_of_bits _ (up bits)

-- ---- PDUs to a radio

one_element : (bits : List Bool) → OfBits (one_element_at group_down_at bits)
unfolding one_element_at
one_element bits =
    after _ _ (bit bits) (λ more. after _ _ (needs_of_bits more.0) (λ there. after _ _ (field 4 more.1) (λ identifier. after _ _ (needs_of_bits _) (λ is. after _ _ (field 11 identifier.1) (λ len.
    after _ _ (piece len.0 len.1) (λ content. after _ _ (body group_down_at group_down 0 content.0) (λ items. after _ _ (needs_of_bits _) (λ some. after _ _ (clear content.1) (λ rest. ends _)))))))))

answers : (bits : List Bool) → OfBits (answers_at group_down_at bits)
unfolding answers_at
answers bits = after _ _ (bit bits) (λ more. either _ _ _ (one_element more.1) (ends _))

module _ {A : Type 0} where
  accept : (bits : List Bool) → OfBits (accept_at {A = A} bits)
  unfolding accept_at
  accept bits = after _ _ (field 3 bits)
      (λ number. after _ _ (known_of_bits (update_of number.0))
      (λ update. after _ _ (known_of_bits (accept_of update)) (λ kind. after _ _ (clear number.1) (λ rest. ends _))))

  reject : (bits : List Bool) → OfBits (reject_at {A = A} bits)
  unfolding reject_at
  reject bits =
      after _ _ (field 3 bits)
      (λ number. after _ _ (known_of_bits (update_of number.0))
      (λ update. after _ _ (field 5 number.1) (λ cause. after _ _ (clear cause.1) (λ rest. after _ _ (clear rest) (λ rest. ends _)))))

  acknowledge : (bits : List Bool) → OfBits (acknowledge_at {A = A} group_down_at bits)
  unfolding acknowledge_at
  acknowledge bits = after _ _ (bit bits) (λ rejected. after _ _ (bit rejected.1) (λ reserved. after _ _ (answers reserved.1) (λ items. ends _)))

  down : (bits : List Bool) → OfBits (down_at {A = A} group_down_at bits)
  unfolding down_at
  down bits = after _ _ (field 4 bits) (λ kind. either _ _ _ (accept kind.1) (either _ _ _ (reject kind.1) (either _ _ _ (acknowledge kind.1) unknown)))

  pub down_of_bits : (bits : List Bool) → reading_down {A = A} bits ≢ Err NoMemory
  unfolding reading_down
  down_of_bits bits = after _ _ (all_of_bits _ (down bits)) (λ read. after _ _ (needs_of_bits read.1) (λ said. ends _))
