-- Changes of rules and radios keep the limits.
use Rattle.std.proofs.Common.{◌≡◌, ℕ, ◌+◌, ◌-◌, ◌≤◌, Bool, true, false, refl, sym, subst, ap, ◌∙◌, arith, Option, Some, None}
use Rattle.std.specs.Prelude.{nat_lt, cond, IsSome, if◌then◌else◌}
use Rattle.std.specs.Option.{is_some}
use Rattle.std.specs.FinMap as map
use Rattle.std.proofs.lemmas.Bool.Decides.{nat_tests}
use Rattle.identity.specs.Path.{Path, path_cmp, id_path}
use Rattle.identity.specs.Inside.PathLaws.{paths_total}
use Rattle.prefix_tree.specs.Table.{PathMap}
use Rattle.registration.specs.declared.limits.Limits.{Limits}
use Rattle.registration.specs.declared.rule.Rule.{Rule}
use Rattle.registration.specs.declared.radio.Radio.{Radio}
use Rattle.registration.specs.declared.fault.RegFault.{RegFault}
use Rattle.registration.specs.declared.fault.RegFault.TheVariants.{RulesFull, Congestion}
use Rattle.registration.specs.Registered.{Registered, empty_registered, radio_of, set_refusal, with_rule, without_rule, room_refusal, located, detached_at, detached, absent}
use Rattle.centre_core.specs.State.{IsWithin}

room : (known free : Bool) (n limit : ℕ) (full : RegFault) → free ≡ nat_lt n limit →
    (if known then None else (if free then None else Some full)) ≡ None → n ≤ limit → (if known then n else n + 1) ≤ limit
room true free n limit full e h fits = fits
room false true n limit full e h fits = grind (arith, nat_tests)
room false false n limit full e h fits = cc

-- one more entry fits, or one is replaced
room_for : {V : Type 0} (m : PathMap V) (k : Path) (v : V) (limit : ℕ) (full : RegFault) →
    (if is_some (map.get m k) then None else (if nat_lt (map.len m) limit then None else Some full)) ≡ None → map.len m ≤ limit →
    map.len (map.insert m k v) ≤ limit
room_for m k v limit full h fits = subst (λ n. n ≤ limit) (sym (map.len-insert paths_total m k v)) (room (is_some (map.get m k)) (nat_lt (map.len m) limit) (map.len m) limit full refl h fits)

pub with_rule_within : (r : Registered) (prefix : Path) (rule : Rule) → set_refusal r prefix ≡ None → IsWithin r → IsWithin (with_rule r prefix rule)
with_rule_within r prefix rule none h = record { rules = room_for r.rules prefix rule r.limits.rules RulesFull none h.rules; radios = h.radios }

one_less : (b : Bool) (n : ℕ) → (if b then n - 1 else n) ≤ n
one_less true n = omega arith
one_less false n = omega arith

pub without_rule_within : (r : Registered) (prefix : Path) → IsWithin r → IsWithin (without_rule r prefix)
without_rule_within r prefix h =
    let fewer : map.len (map.remove r.rules prefix) ≤ map.len r.rules =
    subst (λ n. n ≤ map.len r.rules) (sym (map.len-remove paths_total r.rules prefix))
    (one_less (is_some (map.get r.rules prefix)) (map.len r.rules)) in
    record { rules = omega (arith, fewer, h.rules); radios = h.radios }

pub located_within : (r : Registered) (itsi station area : ℕ) → room_refusal r itsi ≡ None → IsWithin r → IsWithin (located r itsi station area)
located_within r itsi station area none h = record { rules = h.rules; radios = room_for r.radios (id_path itsi) _ r.limits.radios Congestion none h.radios }

detached_at_within : (r : Registered) (itsi : ℕ) (radio : Option Radio) → radio_of r itsi ≡ radio → IsWithin r → IsWithin (detached_at r itsi radio)
detached_at_within r itsi None e h = h
detached_at_within r itsi (Some radio) e h =
    record {
      rules = h.rules;
      radios = subst (λ n. n ≤ r.limits.radios)
          (sym (map.len-insert paths_total r.radios (id_path itsi) (absent radio) ∙
          ap (λ o. if is_some o then map.len r.radios else (map.len r.radios + 1)) e)) h.radios;
    }

pub detached_within : (r : Registered) (itsi : ℕ) → IsWithin r → IsWithin (detached r itsi)
detached_within r itsi h = detached_at_within r itsi (radio_of r itsi) refl h

detached_at_limits : (r : Registered) (itsi : ℕ) (radio : Option Radio) → (detached_at r itsi radio).limits ≡ r.limits
detached_at_limits r itsi None = refl
detached_at_limits r itsi (Some radio) = refl

pub detached_limits : (r : Registered) (itsi : ℕ) → (detached r itsi).limits ≡ r.limits
detached_limits r itsi = detached_at_limits r itsi (radio_of r itsi)

some_cond : {X : Type 0} (b : Bool) (v : X) (o : Option X) → IsSome o → IsSome (cond b (Some v) o)
some_cond true v o h = refl
some_cond false v o h = h

-- an entry stays where another one comes, or takes its place
there_still : {V : Type 0} (m : PathMap V) (k : Path) (v : V) (q : Path) → IsSome (map.get m q) → IsSome (map.get (map.insert m k v) q)
there_still m k v q h = subst IsSome (sym (map.get-insert paths_total m k v q)) (some_cond _ v (map.get m q) h)

-- no radio is forgotten
pub located_still : (r : Registered) (itsi station area other : ℕ) → IsSome (radio_of r other) → IsSome (radio_of (located r itsi station area) other)
located_still r itsi station area other h = there_still r.radios (id_path itsi) _ (id_path other) h

detached_at_still : (r : Registered) (itsi : ℕ) (radio : Option Radio) (other : ℕ) → IsSome (radio_of r other) → IsSome (radio_of (detached_at r itsi radio) other)
detached_at_still r itsi None other h = h
detached_at_still r itsi (Some radio) other h = there_still r.radios (id_path itsi) _ (id_path other) h

pub detached_still : (r : Registered) (itsi other : ℕ) → IsSome (radio_of r other) → IsSome (radio_of (detached r itsi) other)
detached_still r itsi other h = detached_at_still r itsi (radio_of r itsi) other h

pub empty_within : (limits : Limits) → IsWithin (empty_registered limits)
empty_within limits = record { rules = omega (arith, map.len-empty path_cmp Rule); radios = omega (arith, map.len-empty path_cmp Radio) }
