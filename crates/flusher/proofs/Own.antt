-- The events of a round are the flusher's own.
use Rattle.std.specs.declared.alloc.Global.{Global}
use Rattle.std.proofs.Common.{◌≡◌, ℕ, Bool, true, false, List, [], ◌∷◌, ◌++◌, refl}
use Rattle.base.proofs.Lists.{all_append}
use Rattle.centre_core.specs.Asked.{Asked}
use Rattle.schedule.specs.declared.event.Event.{Event}
use Rattle.schedule.specs.declared.event.Event.TheVariants.{CommitBegin, CheckpointBegin, Crash}
use Rattle.schedule.specs.Rounds.{Round, answers_to, commit_of, events_of, give_up, left_under_way, move_if, publish_if, room_if, seals, shown_of, stopped_checkpoint, stopped_commit}
use Rattle.flusher.specs.Stages.{AreOwn, is_own}

abbrev G : Type 0
G = Asked Global

pub own_both : (es fs : List (Event Global)) → AreOwn es → AreOwn fs → AreOwn (es ++ fs)
own_both es fs h k = all_append (λ (e : Event Global). is_own e ≡ true) es fs h k

own_seals : (cs : List G) → AreOwn (seals cs)
own_seals [] = tt
own_seals (c ∷ cs) = (refl, own_seals cs)

own_answers : (cs : List G) → AreOwn (answers_to cs)
own_answers [] = tt
own_answers (c ∷ cs) = (refl, own_answers cs)

own_give_up : (checking : Bool) → AreOwn (give_up checking)
own_give_up true = (refl, tt)
own_give_up false = tt

pub own_room : (checking made_room : Bool) → AreOwn (room_if checking made_room)
own_room checking false = tt
own_room false true = (refl, (refl, tt))
own_room true true = (refl, (refl, (refl, tt)))

pub own_move : (checking moved : Bool) → AreOwn (move_if checking moved)
own_move checking false = tt
own_move false true = (refl, tt)
own_move true true = (refl, tt)

own_publish : (shown : Bool) → AreOwn (publish_if shown)
own_publish true = (refl, tt)
own_publish false = tt

-- a round that committed
pub own_round : (checking : Bool) (how : Round) (cs : List G) → AreOwn (events_of checking how cs)
own_round checking how cs =
    let left = left_under_way checking how in (
      refl,
      own_both (seals cs) (room_if checking how.made_room ++ (commit_of left how ++ shown_of how cs)) (own_seals cs)
          (own_both (room_if checking how.made_room) (commit_of left how ++ shown_of how cs) (own_room checking how.made_room)
          (own_both (commit_of left how) (shown_of how cs) (refl, (refl, own_move left how.moved))
          (own_both (publish_if how.shown) (answers_to cs) (own_publish how.shown) (own_answers cs)))),
    )

-- a round that stopped in its commit
pub own_stopped : (checking made_room : Bool) (cs : List G) (count : ℕ) → AreOwn (stopped_commit checking made_room cs count)
own_stopped checking made_room cs count = (
  refl,
  own_both (seals cs) (room_if checking made_room ++ (CommitBegin ∷ Crash count ∷ [])) (own_seals cs)
      (own_both (room_if checking made_room) (CommitBegin ∷ Crash count ∷ []) (own_room checking made_room) (refl, (refl, tt))),
)

-- a round that stopped in the checkpoint before its commit
pub own_stopped_before : (checking : Bool) (cs : List G) → AreOwn (stopped_checkpoint checking cs)
own_stopped_before checking cs = (
  refl,
  own_both (seals cs) (give_up checking ++ (CheckpointBegin ∷ Crash 0 ∷ [])) (own_seals cs)
      (own_both (give_up checking) (CheckpointBegin ∷ Crash 0 ∷ []) (own_give_up checking) (refl, (refl, tt))),
)
