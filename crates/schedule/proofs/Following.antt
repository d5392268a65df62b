-- Rounds one after the other.
use Rattle.std.specs.Prelude.{nat_lt, nat_le, get_or, set}
use Rattle.std.specs.List.{AllByRecursion}
use Rattle.std.proofs.Common.{◌≡◌, ℕ, zero, suc, true, ◌&&◌, List, [], ◌∷◌, ◌++◌, length, refl, ap, sym, ◌∙◌, subst}
use Rattle.centre_core.specs.declared.command.Command.{Command}
use Rattle.centre_core.specs.State.{State}
use Rattle.schedule.specs.declared.event.Event.{Event}
use Rattle.schedule.specs.World.{World, Line, line, line_of, with_line}
use Rattle.schedule.specs.Next.{emptied, Run}
use Rattle.schedule.specs.Rounds.{at, with_first, fed, queues, AreOf, Goes, RoundsFollow, StopsFollow}
use Rattle.schedule.proofs.Rounding.{run-append, length-fed}

module _ {A : Type 0} where
  fed-append : (ps qs : List (Command A)) (xs : List (Line A)) → fed (ps ++ qs) xs ≡ fed ps (fed qs xs)
  fed-append [] qs xs = refl
  fed-append (c ∷ ps) qs xs = ap (λ l. with_line l c.station (with_first c (line_of l c.station))) (fed-append ps qs xs)

  first_of_both : (P : Command A → Type 0) (ps qs : List (Command A)) → AllByRecursion P (ps ++ qs) → AllByRecursion P ps
  first_of_both P [] qs h = tt
  first_of_both P (p ∷ ps) qs h = (h.0, first_of_both P ps qs h.1)

  second_of_both : (P : Command A → Type 0) (ps qs : List (Command A)) → AllByRecursion P (ps ++ qs) → AllByRecursion P qs
  second_of_both P [] qs h = h
  second_of_both P (p ∷ ps) qs h = second_of_both P ps qs h.1

  -- as many lines have the same stations
  same_places : (xs ys : List (Line A)) (ps : List (Command A)) → length ys ≡ length xs → AreOf xs ps → AreOf ys ps
  same_places xs ys ps e h = subst (λ n. AllByRecursion (λ (c : Command A). (nat_lt 0 c.station && nat_le c.station n) ≡ true) ps) (sym e) h

  -- the queues of the first lines, and what the second have seen
  abbrev merged : List (Line A) → List (Line A) → List (Line A)
  merged [] ys = []
  merged (x ∷ xs) [] = x ∷ merged xs []
  merged (x ∷ xs) (y ∷ ys) = line x.queue y.seen ∷ merged xs ys

  merged_queues : (xs ys : List (Line A)) → queues (merged xs ys) ≡ queues xs
  merged_queues [] ys = refl
  merged_queues (x ∷ xs) [] = ap (λ q. x.queue ∷ q) (merged_queues xs [])
  merged_queues (x ∷ xs) (y ∷ ys) = ap (λ q. x.queue ∷ q) (merged_queues xs ys)

  merged_same : (xs ys : List (Line A)) → queues ys ≡ queues xs → merged xs ys ≡ ys
  merged_same [] [] e = refl
  merged_same [] (y ∷ ys) e = absurd cc
  merged_same (x ∷ xs) [] e = absurd cc
  merged_same (x ∷ xs) (y ∷ ys) e =
      let first : x.queue ≡ y.queue = cc in
      let rest = merged_same xs ys cc in
      λ i. line (first i) y.seen ∷ rest i

  put_merged : (xs ys : List (Line A)) (k : ℕ) (c : Command A) → set (merged xs ys) k (with_first c (get_or (merged xs ys) k (line [] 0))) ≡ merged
      (set xs k (with_first c (get_or xs k (line [] 0)))) ys
  put_merged [] ys k c = refl
  put_merged (x ∷ xs) [] zero c = refl
  put_merged (x ∷ xs) (y ∷ ys) zero c = refl
  put_merged (x ∷ xs) [] (suc k) c = ap (λ l. x ∷ l) (put_merged xs [] k c)
  put_merged (x ∷ xs) (y ∷ ys) (suc k) c = ap (λ l. line x.queue y.seen ∷ l) (put_merged xs ys k c)

  with_merged : (xs ys : List (Line A)) (s : ℕ) (c : Command A) → with_line (merged xs ys) s (with_first c (line_of (merged xs ys) s)) ≡ merged (with_line xs s (with_first c (line_of xs s))) ys
  with_merged xs ys zero c = refl
  with_merged xs ys (suc k) c = put_merged xs ys k c

  fed_merged : (ps : List (Command A)) (xs ys : List (Line A)) → fed ps (merged xs ys) ≡ merged (fed ps xs) ys
  fed_merged [] xs ys = refl
  fed_merged (c ∷ ps) xs ys = ap (λ l. with_line l c.station (with_first c (line_of l c.station))) (fed_merged ps xs ys) ∙ with_merged (fed ps xs) ys c.station c

  length-queues : (xs ys : List (Line A)) → queues xs ≡ queues ys → length xs ≡ length ys
  length-queues [] [] e = refl
  length-queues [] (y ∷ ys) e = absurd cc
  length-queues (x ∷ xs) [] e = absurd cc
  length-queues (x ∷ xs) (y ∷ ys) e = ap suc (length-queues xs ys cc)

  same_emptied : (xs ys : List (Line A)) → queues xs ≡ queues ys → queues (emptied xs) ≡ queues (emptied ys)
  same_emptied [] [] e = refl
  same_emptied [] (y ∷ ys) e = absurd cc
  same_emptied (x ∷ xs) [] e = absurd cc
  same_emptied (x ∷ xs) (y ∷ ys) e = ap (λ (q : List (List (Command A))). [] ∷ q) (same_emptied xs ys cc)

  -- what the first round leaves: the commands of the second before what waits after both
  pub record Between (base : State) (ps qs : List (Command A)) (es : List (Event A)) (f g : World A) (xs : List (Line A)) : Type 0 where
    pub lines : List (Line A)
    pub waits : queues lines ≡ queues xs
    pub of_them : AreOf lines qs
    pub run : Run base (at f (fed (ps ++ qs) xs)) es (at g (fed qs lines))

  between : (base : State) (ps qs : List (Command A)) (es : List (Event A)) (f g : World A) → Goes base ps es f g → (xs : List (Line A)) → AreOf xs (ps ++ qs) → Between base ps qs es f g xs
  between base ps qs es f g goes xs h =
      let first = goes (fed qs xs) (same_places xs (fed qs xs) ps (length-fed qs xs) (first_of_both _ ps qs h)) in
      let ys = merged xs first.0 in
      let waits = merged_queues xs first.0 in
      let is : first.0 ≡ fed qs ys = sym (fed_merged qs xs first.0 ∙ merged_same (fed qs xs) first.0 first.1) in
      record {
        lines = ys;
        waits = waits;
        of_them = same_places xs ys qs (length-queues ys xs waits) (second_of_both _ ps qs h);
        run = subst (λ l. Run base (at f l) es (at g (fed qs ys))) (sym (fed-append ps qs xs)) (subst (λ l. Run base (at f (fed ps (fed qs xs))) es (at g l)) is first.2);
      }

  pub rounds_follow : RoundsFollow A
  rounds_follow base ps qs es fs f g h one two xs are =
      let m = between base ps qs es f g one xs are in
      let last = two m.lines m.of_them in
      (last.0, last.1 ∙ m.waits, run-append base es fs _ _ _ m.run last.2)

  pub stops_follow : StopsFollow A
  stops_follow base ps qs es fs f g h one two xs are =
      let m = between base ps qs es f g one xs are in
      let last = two m.lines m.of_them in
      (last.0, last.1 ∙ same_emptied m.lines xs m.waits, run-append base es fs _ _ _ m.run last.2)
