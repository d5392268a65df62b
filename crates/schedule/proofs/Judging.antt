-- A batch in turn.
use Rattle.std.specs.Prelude.{cond, get_or}
use Rattle.std.proofs.lemmas.List.{drop_more, drop_all, append-nil}
use Rattle.std.proofs.Common.{◌≡◌, ℕ, ◌+◌, ◌<◌, ◌≤◌, Bool, true, false, List, [], ◌∷◌, ◌++◌, length, drop, sym, ◌∙◌, subst, append_assoc}
use Rattle.centre_core.specs.declared.command.Command.{Command}
use Rattle.centre_core.specs.State.{State}
use Rattle.centre_core.specs.History.{is_acceptance, next, after}
use Rattle.centre_core.specs.InTurn.{reply_to}
use Rattle.centre_core.specs.Batches.{with_replies, accepted_of, taken}
use Rattle.schedule.specs.World.{Entry}

module _ {A : Type 0} where
  -- what is judged so far, with what the rest comes to, is what the whole batch comes to
  abbrev pub AreJudged : State → List (Command A) → State → List (Entry A) → List (Command A) → List (Command A) → Type 0
  AreJudged start batch s entries news rest = (entries ++ with_replies A s rest ≡ with_replies A start batch) × (news ++ taken s rest ≡ taken start batch) × (after s rest ≡ after start batch)

  accepted_more : (b : Bool) (c : Command A) (xs ys : List (Command A)) → (xs ++ cond b (c ∷ []) []) ++ ys ≡ xs ++ cond b (c ∷ ys) ys
  accepted_more true c xs ys = append_assoc xs (c ∷ []) ys
  accepted_more false c xs ys = append_assoc xs [] ys

  one_more : (start s : State) (batch rest : List (Command A)) (c : Command A) (entries : List (Entry A)) (news : List (Command A)) → AreJudged start batch s entries news (c ∷ rest)
      → AreJudged start batch (next s c) (entries ++ (c, reply_to s c) ∷ []) (news ++ accepted_of ((c, reply_to s c) ∷ [])) rest
  one_more start s batch rest c entries news h = (
    append_assoc entries ((c, reply_to s c) ∷ []) (with_replies A (next s c) rest) ∙ h.0,
    accepted_more (is_acceptance (reply_to s c)) c news (taken (next s c) rest) ∙ h.1,
    h.2,
  )

  -- the command at i is judged
  pub judged_more : (start s s' : State) (batch : List (Command A)) (i : ℕ) (c : Command A) (entries entries' : List (Entry A))
      (news news' : List (Command A)) → i < length batch → c ≡ get_or batch i c
      → AreJudged start batch s entries news (drop i batch) → entries' ≡ entries ++ (c, reply_to s c) ∷ [] → news' ≡ news ++ accepted_of ((c, reply_to s c) ∷ []) → s' ≡ next s c
      → AreJudged start batch s' entries' news' (drop (i + 1) batch)
  judged_more start s s' batch i c entries entries' news news' lt is h answer_from new goes =
      let e : drop i batch ≡ c ∷ drop (i + 1) batch = subst (λ y. drop i batch ≡ y ∷ drop (i + 1) batch) (sym is) (drop_more batch i c lt) in
      let m = one_more start s batch (drop (i + 1) batch) c entries news (subst (λ l. AreJudged start batch s entries news l) e h) in
      subst (λ t. AreJudged start batch t entries' news' (drop (i + 1) batch)) (sym goes)
      (subst (λ t. AreJudged start batch (next s c) t news' (drop (i + 1) batch)) (sym answer_from)
      (subst (λ t. AreJudged start batch (next s c) (entries ++ (c, reply_to s c) ∷ []) t (drop (i + 1) batch)) (sym new) m))

  -- after the last one all is judged
  pub judged_all : (start s : State) (batch : List (Command A)) (i : ℕ) (entries : List (Entry A)) (news : List (Command A)) → length batch ≤ i → AreJudged start batch s entries news (drop i batch)
      → (entries ≡ with_replies A start batch) × (news ≡ taken start batch) × (s ≡ after start batch)
  judged_all start s batch i entries news le h =
      let m : AreJudged start batch s entries news [] = subst (λ l. AreJudged start batch s entries news l) (drop_all i batch le) h in
      (sym (append-nil entries) ∙ m.0, sym (append-nil news) ∙ m.1, m.2)
