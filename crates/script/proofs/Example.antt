-- The text that the requirements say of the script that they show. Assumes nothing.
use Rattle.std.specs.Prelude.{◌≡◌, false, refl}
use Rattle.text.specs.Ascii.{ascii}
use Rattle.script.specs.Computing.{replaying}
use Rattle.script.specs.Example.{example}
use Rattle.script.specs.Script.{begun, text}

pub example-text : text false begun example 7 ≡ ascii "1 0 0\n2 0 0\n3 0 0\n4 0 1\n5 0 0\n6 0 2\n7 5 0\n"
unfolding replaying
example-text = refl
