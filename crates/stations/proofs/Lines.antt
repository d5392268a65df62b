-- What is known of the lines of a station, from what its session received.
use Rattle.std.proofs.Common.{◌≡◌, ◌⊎◌, inl, inr, ℕ, ◌+◌, ◌≤◌, List, [], ◌∷◌, ◌++◌, length, take, refl, sym, ap, ◌∙◌, subst, arith, append_assoc}
use Rattle.std.specs.Prelude.{Bool, Result, Ok, Err}
use Rattle.std.specs.List.{AllByRecursion}
use Rattle.std.specs.declared.alloc.Global.{Global}
use Rattle.std.proofs.lemmas.List.{append-nil}
use Rattle.identity.specs.Numbers.{Byte}
use Rattle.centre_core.specs.Asked.{Asked}
use Rattle.centre_core.specs.State.{State}
use Rattle.centre_core.specs.declared.reply.Reply.{Reply}
use Rattle.centre_core.specs.declared.reply.Reply.TheVariants.{Accepted, Kept, Refused}
use Rattle.desk.specs.declared.outage.Outage.{Outage}
use Rattle.console.specs.Dialogue.{AnswersReading, Dialogue}
use Rattle.console.specs.Reading.{Speaker, heard}
use Rattle.console.specs.declared.answer.Answer.{Answer}
use Rattle.console.specs.declared.answer.Answer.TheVariants as answer
use Rattle.console.specs.declared.line.Line.{Line}
use Rattle.console.specs.declared.line.Line.TheVariants as line
use Rattle.flusher.specs.Borne.{AreBorneOut, IsDecisionAfter, IsReplyAfter}
use Rattle.flusher.specs.Stages.{Sent}
use Rattle.flusher.specs.Submitted.{SessionView, answer_by}
use Rattle.flusher.specs.declared.decision.Decision.{Decision}
use Rattle.flusher.specs.declared.decision.Decision.TheVariants as decision
use Rattle.stations.specs.Lines.{AreLinesBorneOut, AreRepliedTo, IsLineAfter, IsRepliedTo}
use Rattle.stations.specs.OfSession.{Applies, AtSession, IsSubmitted, of_session, result_of}
use Rattle.stations.specs.Served.{new_view}

abbrev G : Type 0
G = Asked Global

-- P holds of the reply in a result; an outage word needs nothing
abbrev IsReply : (Reply Global → Type 0) → Result (Reply Global) Outage → Type 0
IsReply P (Ok r) = P r
IsReply P (Err word) = Unit {0}

-- what follows of each reply follows of the answer to a line
by_reply : (P Q : G → Reply Global → Type 0) → ((c : G) (r : Reply Global) → P c r → Q c r) → (said : Line Global) (given : Answer Global) → IsRepliedTo P said given → IsRepliedTo Q said given
by_reply P Q to line.Silent given h = tt
by_reply P Q to (line.Bad fault) given h = tt
by_reply P Q to (line.Mark word) given h = tt
by_reply P Q to (line.OwnStation station) given h = tt
by_reply P Q to line.Service given h = tt
by_reply P Q to (line.Forbidden sequence) given h = tt
by_reply P Q to (line.Ask q) given h = tt
by_reply P Q to (line.Print l) given h = tt
by_reply P Q to (line.Apply c) answer.Quiet h = tt
by_reply P Q to (line.Apply c) (answer.Marked word) h = tt
by_reply P Q to (line.Apply c) (answer.OwnStation station) h = tt
by_reply P Q to (line.Apply c) (answer.Service lines) h = tt
by_reply P Q to (line.Apply c) (answer.ServiceOutage number) h = tt
by_reply P Q to (line.Apply c) (answer.Forbidden sequence) h = tt
by_reply P Q to (line.Apply c) (answer.Bad number fault) h = tt
by_reply P Q to (line.Apply c) (answer.Replied sequence reply) h = to c reply h
by_reply P Q to (line.Apply c) (answer.CommandOutage sequence word) h = tt
by_reply P Q to (line.Apply c) (answer.Queried found) h = tt
by_reply P Q to (line.Apply c) (answer.Listed lines) h = tt
by_reply P Q to (line.Apply c) (answer.QueryOutage number word) h = tt

-- no command has a reply
abbrev NoReply : G → Reply Global → Type 0
NoReply c r = ⊥

-- the reply to a command is the decision in what was received for it
abbrev pub IsOf : Sent → G → Reply Global → Type 0
IsOf x c r = (x.command ≡ c) × (x.decision ≡ decision.Replied r)

module _ (J : Type 0) (base : State) where
  decided : (published : List G) (d : Decision) → IsReply (λ r. d ≡ decision.Replied r) (result_of {J = J} (answer_by published d))
  decided published (decision.Replied (Accepted n p)) = refl
  decided published (decision.Replied (Kept n p)) = refl
  decided published (decision.Replied (Refused r)) = refl
  decided published decision.NoMemory = tt
  decided published (decision.Fault f) = tt

  for_command : (x : Sent) (c : G) (result : Result (Reply Global) Outage) → x.command ≡ c → IsReply (λ r. x.decision ≡ decision.Replied r) result → IsReply (IsOf x c) result
  for_command x c (Ok r) same is = (same, is)
  for_command x c (Err word) same is = tt

  -- nothing was received, and there is no reply; or one answer was, and a reply is the decision in it
  abbrev Gives : AtSession → AtSession → ((G → Reply Global → Type 0) → Type 0) → Type 0
  Gives s t P = ((t.view.received ≡ s.view.received) × P NoReply) ⊎ ((x : Sent) × (t.view.received ≡ s.view.received ++ x ∷ []) × P (IsOf x))

  submitted : (s t : AtSession) (c : G) (result : Result (Reply Global) Outage) → IsSubmitted J base s c result t → Gives s t (λ P. IsReply (P c) result)
  submitted s t c result is = elim is.submission.received [
    | inl got ↦ (elim got.2 [
      | inl fits ↦ inr (
        got.0,
        got.1,
        for_command got.0 c result fits.0
            (subst (IsReply (λ r. got.0.decision ≡ decision.Replied r)) (sym (is.result_is ∙ ap result_of fits.1)) (decided got.0.published got.0.decision)),
      )
      | inr closed ↦ inr (got.0, got.1, subst (IsReply (IsOf got.0 c)) (sym (is.result_is ∙ ap result_of closed.1)) tt)
    ])
    | inr none ↦ (elim none [
      | inl gone ↦ inl (gone.0, subst (IsReply (NoReply c)) (sym (is.result_is ∙ ap result_of gone.2)) tt)
      | inr out ↦ inl (ap (λ (v : SessionView). v.received) out.0, subst (IsReply (NoReply c)) (sym (is.result_is ∙ ap result_of out.1)) tt)
    ])
  ]

  module _ (may_order : Bool) where
    applied : (s t : AtSession) (c : G) (result : Result (Reply Global) Outage) → Applies J base may_order s c result t → Gives s t (λ P. IsReply (P c) result)
    applied s t c result h = elim h.1 [
      | inl own ↦ submitted s t c result own.2
      | inr refused ↦ (elim refused [
        | inl other ↦ inl (ap (λ (u : AtSession). u.view.received) other.2, subst (IsReply (NoReply c)) (sym other.1) tt)
        | inr forbidden ↦ inl (ap (λ (u : AtSession). u.view.received) forbidden.2, subst (IsReply (NoReply c)) (sym forbidden.1) tt)
      ])
    ]

  one_line : (may_order : Bool) (n : ℕ) (s t : AtSession) (said : Line Global) (given : Answer Global) →
      AnswersReading (of_session J base may_order) n s said given t → Gives s t (λ P. IsRepliedTo P said given)
  one_line may_order n s t line.Silent given h = inl (ap (λ (u : AtSession). u.view.received) h.1, tt)
  one_line may_order n s t (line.Bad fault) given h = inl (ap (λ (u : AtSession). u.view.received) h.1, tt)
  one_line may_order n s t (line.Mark word) given h = inl (ap (λ (u : AtSession). u.view.received) h.1, tt)
  one_line may_order n s t (line.OwnStation station) given h = inl (ap (λ (u : AtSession). u.view.received) h.1, tt)
  one_line may_order n s t line.Service given h = inl (ap (λ (u : AtSession). u.view.received) h.1, tt)
  one_line may_order n s t (line.Forbidden sequence) given h = inl (ap (λ (u : AtSession). u.view.received) h.1, tt)
  one_line may_order n s t (line.Apply c) answer.Quiet h = absurd h
  one_line may_order n s t (line.Apply c) (answer.Marked word) h = absurd h
  one_line may_order n s t (line.Apply c) (answer.OwnStation station) h = absurd h
  one_line may_order n s t (line.Apply c) (answer.Service lines) h = absurd h
  one_line may_order n s t (line.Apply c) (answer.ServiceOutage number) h = absurd h
  one_line may_order n s t (line.Apply c) (answer.Forbidden sequence) h = absurd h
  one_line may_order n s t (line.Apply c) (answer.Bad number fault) h = absurd h
  one_line may_order n s t (line.Apply c) (answer.Replied sequence reply) h = applied may_order s t c (Ok reply) h.1
  one_line may_order n s t (line.Apply c) (answer.CommandOutage sequence word) h = elim h.1 [
    | inl done ↦ applied may_order s t c (Err word) done
    | inr lacks ↦ inl (ap (λ (u : AtSession). u.view.received) lacks.2, tt)
  ]
  one_line may_order n s t (line.Apply c) (answer.Queried found) h = absurd h
  one_line may_order n s t (line.Apply c) (answer.Listed lines) h = absurd h
  one_line may_order n s t (line.Apply c) (answer.QueryOutage number word) h = absurd h
  one_line may_order n s t (line.Ask q) answer.Quiet h = absurd h
  one_line may_order n s t (line.Ask q) (answer.Marked word) h = absurd h
  one_line may_order n s t (line.Ask q) (answer.OwnStation station) h = absurd h
  one_line may_order n s t (line.Ask q) (answer.Service lines) h = absurd h
  one_line may_order n s t (line.Ask q) (answer.ServiceOutage number) h = absurd h
  one_line may_order n s t (line.Ask q) (answer.Forbidden sequence) h = absurd h
  one_line may_order n s t (line.Ask q) (answer.Bad number fault) h = absurd h
  one_line may_order n s t (line.Ask q) (answer.Replied sequence reply) h = absurd h
  one_line may_order n s t (line.Ask q) (answer.CommandOutage sequence word) h = absurd h
  one_line may_order n s t (line.Ask q) (answer.Queried found) h = inl (h.0.2, tt)
  one_line may_order n s t (line.Ask q) (answer.Listed lines) h = absurd h
  one_line may_order n s t (line.Ask q) (answer.QueryOutage number word) h = elim h.1 [
    | inl done ↦ inl (done.0.2, tt)
    | inr lacks ↦ inl (lacks.1.2.0.2, tt)
  ]
  one_line may_order n s t (line.Print p) answer.Quiet h = absurd h
  one_line may_order n s t (line.Print p) (answer.Marked word) h = absurd h
  one_line may_order n s t (line.Print p) (answer.OwnStation station) h = absurd h
  one_line may_order n s t (line.Print p) (answer.Service lines) h = absurd h
  one_line may_order n s t (line.Print p) (answer.ServiceOutage number) h = absurd h
  one_line may_order n s t (line.Print p) (answer.Forbidden sequence) h = absurd h
  one_line may_order n s t (line.Print p) (answer.Bad number fault) h = absurd h
  one_line may_order n s t (line.Print p) (answer.Replied sequence reply) h = absurd h
  one_line may_order n s t (line.Print p) (answer.CommandOutage sequence word) h = absurd h
  one_line may_order n s t (line.Print p) (answer.Queried found) h = absurd h
  one_line may_order n s t (line.Print p) (answer.Listed lines) h = inl (h.1.0.2, tt)
  one_line may_order n s t (line.Print p) (answer.QueryOutage number word) h = elim h.1 [
    | inl done ↦ inl (done.0.2, tt)
    | inr lacks ↦ inl (lacks.2.1.0.2, tt)
  ]

  module _ (durable : List G) (speaker : Speaker) where
    -- what is received for these lines, and that what bears it out bears out their answers
    abbrev Rest : AtSession → AtSession → List (List Byte) → List (Answer Global) → Type 0
    Rest s t texts given = (more : List Sent) × (t.view.received ≡ s.view.received ++ more)
        × ((low : ℕ) → low ≤ length durable → AreBorneOut base durable low more → AreLinesBorneOut base durable speaker low texts given)

    borne_by : (l : List G) (x : Sent) (said : Line Global) (given : Answer Global) → IsDecisionAfter base l x.command x.decision → IsRepliedTo (IsOf x) said given → IsLineAfter base l said given
    borne_by l x said given borne of = by_reply (IsOf x) (IsReplyAfter base l)
        (λ c r is. subst (λ (q : G × Decision). IsDecisionAfter base l q.0 q.1) (λ i. (is.0 i, is.1 i)) borne) said given of

    joined : (s mid t : AtSession) (text : List Byte) (texts : List (List Byte)) (one : Answer Global) (given : List (Answer Global)) →
        Gives s mid (λ P. IsRepliedTo P (heard speaker text) one) → Rest mid t texts given → Rest s t (text ∷ texts) (one ∷ given)
    joined s mid t text texts one given step rest = elim step [
      | inl none ↦ (
        rest.0,
        rest.1 ∙ ap (λ l. l ++ rest.0) none.0,
        λ low le borne. (low, omega arith, le, by_reply NoReply (IsReplyAfter base (take low durable)) (λ c r no. absurd no) (heard speaker text) one none.1, rest.2 low le borne),
      )
      | inr got ↦ (
        got.0 ∷ rest.0,
        rest.1 ∙ ap (λ l. l ++ rest.0) got.1 ∙ append_assoc s.view.received (got.0 ∷ []) rest.0,
        λ low le borne. (borne.0, borne.1, borne.2, borne_by (take borne.0 durable) got.0 (heard speaker text) one borne.3 got.2, rest.2 borne.0 borne.2 borne.4),
      )
    ]

    from_line : (n : ℕ) (s t : AtSession) (texts : List (List Byte)) (given : List (Answer Global)) → Dialogue (of_session J base speaker.orders) speaker n s texts given t → Rest s t texts given
    from_line n s t [] [] h = ([], ap (λ (u : AtSession). u.view.received) h ∙ sym (append-nil s.view.received), λ low le borne. tt)
    from_line n s t [] (one ∷ given) h = absurd h
    from_line n s t (text ∷ texts) [] h = absurd h
    from_line n s t (text ∷ texts) (one ∷ given) h =
        joined s h.0 t text texts one given (one_line speaker.orders (n + 1) s h.0 (heard speaker text) one h.1) (from_line (n + 1) h.0 t texts given h.2)

    -- if all that the session received is borne out, so is the answer to each of its lines
    pub lines_borne : (view : SessionView) (texts : List (List Byte)) (given : List (Answer Global)) →
        Dialogue (of_session J base speaker.orders) speaker 0 (record { station = speaker.station; view = new_view }) texts given (record { station = speaker.station; view = view }) →
        AreBorneOut base durable 0 view.received → AreLinesBorneOut base durable speaker 0 texts given
    lines_borne view texts given h borne =
        let rest = from_line 0 (record { station = speaker.station; view = new_view }) (record { station = speaker.station; view = view }) texts given h in
        rest.2 0 (omega arith) (subst (λ (l : List Sent). AreBorneOut base durable 0 l) rest.1 borne)

  -- what holds of each answer that the session received, and so of each reply to a command in its lines
  module _ (Q : Sent → Type 0) (R : G → Reply Global → Type 0) (so : (x : Sent) (c : G) (r : Reply Global) → IsOf x c r → Q x → R c r) (speaker : Speaker) where
    abbrev Received : AtSession → AtSession → List (List Byte) → List (Answer Global) → Type 0
    Received s t texts given = (more : List Sent) × (t.view.received ≡ s.view.received ++ more) × (AllByRecursion Q more → AreRepliedTo R speaker texts given)

    further : (s mid t : AtSession) (text : List Byte) (texts : List (List Byte)) (one : Answer Global) (given : List (Answer Global)) →
        Gives s mid (λ P. IsRepliedTo P (heard speaker text) one) → Received mid t texts given → Received s t (text ∷ texts) (one ∷ given)
    further s mid t text texts one given step rest = elim step [
      | inl none ↦ (rest.0, rest.1 ∙ ap (λ l. l ++ rest.0) none.0, λ all. (by_reply NoReply R (λ c r no. absurd no) (heard speaker text) one none.1, rest.2 all))
      | inr got ↦ (
        got.0 ∷ rest.0,
        rest.1 ∙ ap (λ l. l ++ rest.0) got.1 ∙ append_assoc s.view.received (got.0 ∷ []) rest.0,
        λ all. (by_reply (IsOf got.0) R (λ c r is. so got.0 c r is all.0) (heard speaker text) one got.2, rest.2 all.1),
      )
    ]

    received_for : (n : ℕ) (s t : AtSession) (texts : List (List Byte)) (given : List (Answer Global)) →
        Dialogue (of_session J base speaker.orders) speaker n s texts given t → Received s t texts given
    received_for n s t [] [] h = ([], ap (λ (u : AtSession). u.view.received) h ∙ sym (append-nil s.view.received), λ all. tt)
    received_for n s t [] (one ∷ given) h = absurd h
    received_for n s t (text ∷ texts) [] h = absurd h
    received_for n s t (text ∷ texts) (one ∷ given) h =
        further s h.0 t text texts one given (one_line speaker.orders (n + 1) s h.0 (heard speaker text) one h.1) (received_for (n + 1) h.0 t texts given h.2)

    pub replies_received : (view : SessionView) (texts : List (List Byte)) (given : List (Answer Global)) →
        Dialogue (of_session J base speaker.orders) speaker 0 (record { station = speaker.station; view = new_view }) texts given (record { station = speaker.station; view = view }) →
        AllByRecursion Q view.received → AreRepliedTo R speaker texts given
    replies_received view texts given h all =
        let rest = received_for 0 (record { station = speaker.station; view = new_view }) (record { station = speaker.station; view = view }) texts given h in
        rest.2 (subst (λ (l : List Sent). AllByRecursion Q l) rest.1 all)
