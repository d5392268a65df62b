-- What is left of a line while its words are cut, and those that were cut.
use Rattle.std.specs.Prelude.{List, Option, drop, take, map, option_map}
use Rattle.identity.specs.Numbers.{Byte}
use Rattle.console.specs.declared.form.Words.{Words}
use Rattle.console.specs.declared.spaces.Rest.{Rest}
use Rattle.console.specs.Reading.{words_after}

-- the bytes that are left
abbrev pub bytes_left : Rest → List Byte
bytes_left rest = drop rest.start rest.line.now

-- their words; none if nothing is left
abbrev pub words_left : Option Rest → List (List Byte)
words_left rest = words_after (option_map bytes_left rest)

-- the words that were cut
abbrev pub words_in : Words → List (List Byte)
words_in words = map (λ w. w.now) (take words.count words.places)
