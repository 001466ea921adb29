-- Inner: no public promise uses the names of this file.
-- The replacement due, kept as a place and a line's number while rules are tried one after the other. Specification, "Replacing".
use Rattle.std.specs.Prelude.{ℕ, ◌+◌, cond, ltb, length, Option, Some, None}
use Rattle.words.specs.Word.{Word}
use Rattle.rewriting.specs.Standing.{first_from}
use Rattle.rewriting.specs.Search.{Due, nothing, due}
use Rattle.rewriting.specs.declared.Found.{Found}

abbrev pub found_of : Due → Option Found
found_of nothing = None
found_of (due p r) = Some (record { place = p; line = r.line })

-- the place of what was found, and end where nothing was
abbrev pub place_found : ℕ → Option Found → ℕ
place_found end None = end
place_found end (Some f) = f.place

-- the rule of a later line, at the place p, goes before what was found only where p is before end, the place of that
abbrev pub earlier_found : ℕ → ℕ → ℕ → Option Found → Option Found
earlier_found p end line f = cond (ltb p end) (Some (record { place = p; line = line })) f

-- what was found, or a later line where its left word stands at an earlier place
unfoldable pub or_earlier : Option Found → ℕ → Word → Word → Option Found
or_earlier f line l w = earlier_found (first_from l w 0 (place_found (length w + 1) f)) (place_found (length w + 1) f) line f
