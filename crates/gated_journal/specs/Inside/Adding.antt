-- What the append of a text does to the disk and to the place, whatever commands the text is of.
use Rattle.std.specs.Prelude.{◌≡◌, ◌+◌, ℕ, List, OnOk, Result, false}
use Rattle.identity.specs.Numbers.{Byte}
use Rattle.centre_core.specs.Asked.{Asked}
use Rattle.sector_disk.specs.Disk.{View}
use Rattle.sector_disk.specs.Run.{HasCalled, HasMade, IsSameOutside, LeavesOnly}
use Rattle.gated_journal.specs.Calls.{append_both_calls, append_calls}
use Rattle.gated_journal.specs.Half.{RecordAt}
use Rattle.gated_journal.specs.Inside.Next.{IsNext, counting}
use Rattle.gated_journal.specs.Record.{data_size}
use Rattle.gated_journal.specs.Settled.{HasOneMore, HaveOneMore, IsSameOutsideBoth, IsSettled, Leaves, LeavesBoth}
use Rattle.gated_journal.specs.declared.place.Place.{Place}

module _ (A : Type 0) {E : Type 0} where
  -- What the append of this text does to the disk and to a place. The fields are those of `AddsOne`, for any commands that have
  -- this text. `after` does not count them yet.
  pub record AddsText (old new : View) (place after : Place) (text : List Byte) (result : Result Unit E) : Type 0 where
    pub any_moment : (before : ℕ) (entries : List (RecordAt A)) (commands : List (Asked A)) → IsNext place commands text → old.honest
        → IsSettled old place before entries → LeavesOnly old new (Leaves old place before entries (place.next + 1, commands))
    pub acknowledged : OnOk result ((before : ℕ) (entries : List (RecordAt A)) (commands : List (Asked A)) → IsNext place commands text → old.honest
        → IsSettled old place before entries → HasOneMore new (counting after commands) before entries (place.next + 1, commands))
    pub durable : old.honest → OnOk result ((k : ℕ) → new.pending k ≡ false)
    pub elsewhere : old.honest → OnOk result (IsSameOutside place.first place.end old new)
    pub next : OnOk result (after ≡ record (place) { next = place.next + data_size text + 1 })
    pub calls : OnOk result (HasCalled old new (append_calls place.next text))
    pub some_calls : HasMade old new (append_calls place.next text)

  -- What the append of these texts, one to each half, does to the disk and to two places. The fields are those of `AddsToBoth`,
  -- for any commands that have both texts. `x_after` and `y_after` do not count them yet.
  pub record AddsTexts (old new : View) (x x_after y y_after : Place) (text other : List Byte) (result : Result Unit E) : Type 0 where
    pub any_moment : (before start : ℕ) (entries others : List (RecordAt A)) (commands : List (Asked A)) → IsNext x commands text → IsNext y commands other
        → old.honest → IsSettled old x before entries → IsSettled old y start others
        → LeavesOnly old new (LeavesBoth old x y before start entries others (x.next + 1, commands) (y.next + 1, commands))
    pub acknowledged : OnOk result ((before start : ℕ) (entries others : List (RecordAt A)) (commands : List (Asked A)) → IsNext x commands text
        → IsNext y commands other → old.honest → IsSettled old x before entries → IsSettled old y start others
        → HaveOneMore new (counting x_after commands) (counting y_after commands) before start entries others (x.next + 1, commands) (y.next + 1, commands))
    pub durable : old.honest → OnOk result ((k : ℕ) → new.pending k ≡ false)
    pub elsewhere : old.honest → OnOk result (IsSameOutsideBoth x y old new)
    pub next : OnOk result (x_after ≡ record (x) { next = x.next + data_size text + 1 })
    pub other_next : OnOk result (y_after ≡ record (y) { next = y.next + data_size other + 1 })
    pub calls : OnOk result (HasCalled old new (append_both_calls x.next text y.next other))
    pub some_calls : HasMade old new (append_both_calls x.next text y.next other)
