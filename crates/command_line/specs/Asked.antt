-- The requests of command lines, whose first word is the program's name.
use Rattle.std.specs.Prelude.{◌≡◌, ◌⊎◌, ◌&&◌, ℕ, Bool, true, false, List, [], ◌∷◌, Option, Some, None, codes, if◌then◌else◌}
use Rattle.std.specs.Prelude.{length, map, nat_le, nat_lt, option_and_then, option_map, unwrap_or, Vec}
use Rattle.std.specs.Borrow.{Bor}
use Rattle.std.specs.declared.alloc.Global.{Global}
use Rattle.std.specs.Char.{digit_value}
use Rattle.std.specs.List.{list_all}
use Rattle.std.specs.Str.{bytes_eq}
use Rattle.std.specs.Str.Parse.{digits_value, without_leading_plus}
use Rattle.std.specs.declared.io.ErrorKind as io_kind
use Rattle.std.specs.declared.io.ErrorKind.TheVariants as fault
use Rattle.clap.specs.Words.{IsAmong, Kinds, Row, Text, all_of, fault_of, first_of, kind_of, subcommand_of}
use Rattle.clap.specs.declared.error.Error.{Error}
use Rattle.clap.specs.declared.error.kind.ErrorKind.{ErrorKind}
use Rattle.clap.specs.declared.error.kind.ErrorKind.TheVariants as kind
use Rattle.command_line.specs.Program.{program}
use Rattle.command_line.specs.declared.request.Request.{Request}
use Rattle.command_line.specs.declared.request.Request.TheVariants as request
use Rattle.command_line.specs.declared.request.Refusal.{Refusal}
use Rattle.command_line.specs.declared.request.Refusal.TheVariants as refusal

-- a request, with the texts of its words; `run` and `serve` also have the stations that `--orders` names, and `serve` whether it has
-- `--log` and `--stop-at-fault`, `check` whether it has `--rest`
pub data Asked : Type 0 where
  memory : Asked
  format : Text → Text → Asked
  run : Text → List Text → List ℕ → Asked
  serve : Text → List (Text × Text) → List ℕ → Bool → Bool → Asked
  show : Text → List Text → Asked
  dump : Text → Asked
  load : Text → Text → Text → Asked
  check : Text → Bool → Asked

-- the texts of pairs of words
abbrev pub pair_texts : List (Bor Text × Bor Text) → List (Text × Text)
pair_texts pairs = map (λ (pair : Bor Text × Bor Text). (pair.0.now, pair.1.now)) pairs

-- the texts of a request
abbrev pub asked_by : Request → Asked
asked_by request.Memory = memory
asked_by (request.Format settings disk) = format settings.now disk.now
asked_by (request.Run disk files orders) = run disk.now (map (λ file. file.now) files.items) orders.items
asked_by (request.Serve disk pairs orders log stop_at_fault) = serve disk.now (pair_texts pairs.items) orders.items log stop_at_fault
asked_by (request.Show disk words) = show disk.now (map (λ word. word.now) words.items)
asked_by (request.Dump disk) = dump disk.now
asked_by (request.Load file settings disk) = load file.now settings.now disk.now
asked_by (request.Check disk rest) = check disk.now rest

-- two parts of a request, where neither is missing
abbrev pub both : {W X Y : Type 0} → (W → X → Y) → Option W → Option X → Option Y
both made first second = option_and_then (λ a. option_map (made a) second) first

-- the disk, and all the words under a name
abbrev pub disk_and_words : Text → List Row → Option (Text × List Text)
disk_and_words name found = both (λ disk words. (disk, words)) (first_of (codes "DISK") found) (all_of name found)

-- the texts of a disk and of words
abbrev pub texts_of : Bor Text × Vec (Bor Text) Global → Text × List Text
texts_of found = (found.0.now, map (λ word. word.now) found.1.items)

-- the settings and the disk
abbrev pub settings_and_disk : List Row → Option (Text × Text)
settings_and_disk found = both (λ settings disk. (settings, disk)) (first_of (codes "SETTINGS") found) (first_of (codes "DISK") found)

-- the texts of two words
abbrev pub two_texts : Bor Text × Bor Text → Text × Text
two_texts found = (found.0.now, found.1.now)

-- the request of `format`, by the words that clap found: its settings and its disk
abbrev pub format_in : List Row → Option Asked
format_in found = option_map (λ (named : Text × Text). format named.0 named.1) (settings_and_disk found)

-- one decimal digit or more, and nothing else
abbrev pub is_numeral : Text → Bool
is_numeral text = nat_lt 0 (length text) && list_all (λ digit. nat_lt (digit_value digit) 10) text

-- a number from 1 to 65,535
abbrev pub is_station : ℕ → Bool
is_station number = nat_lt 0 number && nat_lt number 65536

-- the station that a word names, by its decimal number; a plus may come first
abbrev pub station_in : Text → Option ℕ
station_in text =
    let digits = without_leading_plus text in
    let number = digits_value 10 digits in
    if is_numeral digits && is_station number then Some number else None

-- the stations that words name, if each names one
unfoldable pub stations_in : List Text → Option (List ℕ)
stations_in [] = Some []
stations_in (text ∷ rest) = both (λ station stations. station ∷ stations) (station_in text) (stations_in rest)

-- the stations that `--orders` names; none without it
abbrev pub orders_in : List Row → Option (List ℕ)
orders_in found = stations_in (unwrap_or (all_of (codes "orders") found) [])

-- the request of `run`: its disk, its files, and the stations that may give orders
abbrev pub run_in : List Row → Option Asked
run_in found = both (λ (named : Text × List Text) orders. run named.0 named.1 orders) (disk_and_words (codes "FILE") found) (orders_in found)

-- the words in pairs, if their number is even
unfoldable pub paired : List Text → Option (List (Text × Text))
paired [] = Some []
paired (input ∷ []) = None
paired (input ∷ output ∷ rest) = option_map (λ pairs. (input, output) ∷ pairs) (paired rest)

-- the disk, and IN and OUT of each station
abbrev pub disk_and_pairs : List Row → Option (Text × List (Text × Text))
disk_and_pairs found = both (λ disk pairs. (disk, pairs)) (first_of (codes "DISK") found) (paired (unwrap_or (all_of (codes "END") found) []))

-- a flag was given: clap then has the text `true` for it
abbrev pub is_given : Text → List Row → Bool
is_given name found = unwrap_or (option_map (λ text. bytes_eq text (codes "true")) (first_of name found)) false

-- the request of `serve`: its disk, IN and OUT of each station, the stations that may give orders, and its flags
abbrev pub serve_in : List Row → Option Asked
serve_in found =
    both (λ (named : Text × List (Text × Text)) orders. serve named.0 named.1 orders (is_given (codes "log") found) (is_given (codes "stop-at-fault") found))
    (disk_and_pairs found) (orders_in found)

-- the request of `show`: its disk and its words
abbrev pub show_in : List Row → Option Asked
show_in found = option_map (λ (named : Text × List Text). show named.0 named.1) (disk_and_words (codes "WORD") found)

-- the request of `dump`: its disk
abbrev pub dump_in : List Row → Option Asked
dump_in found = option_map dump (first_of (codes "DISK") found)

-- the request of `load`: its dump, its settings and its disk
abbrev pub load_in : List Row → Option Asked
load_in found = both (λ file (named : Text × Text). load file named.0 named.1) (first_of (codes "DUMP") found) (settings_and_disk found)

-- the request of `check`: its disk, and its flag
abbrev pub check_in : List Row → Option Asked
check_in found = option_map (λ disk. check disk (is_given (codes "rest") found)) (first_of (codes "DISK") found)

-- the request of `dump`, `load` or `check`
abbrev pub dump_load_or_check_in : Text × List Row → Option Asked
dump_load_or_check_in found =
    if bytes_eq found.0 (codes "dump") then dump_in found.1
    else (if bytes_eq found.0 (codes "load") then load_in found.1
    else (if bytes_eq found.0 (codes "check") then check_in found.1
    else None))

-- the request of a subcommand that clap found, with its words
abbrev pub asked_of : Text × List Row → Option Asked
asked_of found =
    if bytes_eq found.0 (codes "format") then format_in found.1
    else (if bytes_eq found.0 (codes "run") then run_in found.1
    else (if bytes_eq found.0 (codes "serve") then serve_in found.1
    else (if bytes_eq found.0 (codes "show") then show_in found.1
    else dump_load_or_check_in found)))

-- no word follows the program's name
abbrev pub is_bare : List Text → Bool
is_bare words = nat_le (length words) 1

-- the kinds of fault that clap finds in the words: none if it accepts them
abbrev pub faults : List Text → Kinds
faults words = fault_of program words

-- the request of words that clap accepts
abbrev pub taken : List Text → Option Asked
taken words = option_and_then asked_of (subcommand_of program words)

-- the words are this request
abbrev pub Asks : List Text → Asked → Type 0
Asks words asked =
    ((is_bare words ≡ true) × (asked ≡ memory))
    ⊎ ((is_bare words ≡ false) × (faults words ≡ []) × (taken words ≡ Some asked))

-- the refusal of an error of clap, by its kind
abbrev pub refusal_by : ErrorKind → Error → Refusal
refusal_by kind.DisplayHelp = refusal.Help
refusal_by kind.DisplayVersion = refusal.Version
refusal_by kind.OutOfMemory = λ error. refusal.NoMemory
refusal_by _ = refusal.Wrong

-- the refusal where the words can't be read: one of them is no UTF-8, unless memory ran out
abbrev pub unread_by : io_kind.ErrorKind → Refusal
unread_by fault.OutOfMemory = refusal.NoMemory
unread_by _ = refusal.NoText

-- the refusal reports an error of one of these kinds, or that memory ran out
abbrev pub ReportsOne : Kinds → Refusal → Type 0
ReportsOne kinds reported = (reported ≡ refusal.NoMemory)
    ⊎ ((error : Error) × (reported ≡ refusal_by (kind_of error) error) × IsAmong (kind_of error) kinds)

-- clap accepts the words, but one is missing: the OUT of the last IN. It accepts no other word of `--orders` than a station.
abbrev pub LacksOne : List Text → Type 0
LacksOne words = (faults words ≡ []) × (taken words ≡ None)

-- the words may have this refusal
abbrev pub Refuses : List Text → Refusal → Type 0
Refuses words reported =
    (is_bare words ≡ false) × (ReportsOne (faults words) reported ⊎ ((reported ≡ refusal.Missing) × LacksOne words))

-- the exit status: 0 where help or the version was asked for, 2 for a wrong command line, 5 when memory runs out
abbrev pub status_of : Refusal → ℕ
status_of (refusal.Help error) = 0
status_of (refusal.Version error) = 0
status_of (refusal.Wrong error) = 2
status_of refusal.Missing = 2
status_of refusal.NoText = 2
status_of refusal.NoMemory = 5
