-- The domains of a usage file as text.
use Rattle.std.specs.Prelude.{ℕ, min, List, length, replicate, Option}
use Rattle.text.specs.Places.{over}
use Rattle.usage_layout.specs.Layout.{each}
use Rattle.usage_parse.specs.Domains.{stretch_at, stretch_of}
use Rattle.usage_text.specs.BodyText.{body_lines}
use Rattle.usage_text.specs.declared.FileText.{FileText}

-- the lines of domain d of a file with that count: none where there is no such domain
abbrev pub domain_lines : List ℕ → Option ℕ → ℕ → List ℕ
domain_lines file count d = body_lines d (stretch_at file count d)

-- of the first n domains, of at most sixteen
unfoldable pub file_lines : List ℕ → Option ℕ → ℕ → List ℕ
file_lines file count n = each (min n 16) (domain_lines file count)

-- the same by the bodies that are told of a file
unfoldable pub lines_of : List ℕ → ℕ → List ℕ
lines_of file n = each (min n 16) (λ d. body_lines d (stretch_of file d))

-- that text, of a file with that count: zeros past it
abbrev pub file_text_of : Option ℕ → List ℕ → FileText
file_text_of count t = record { bytes = over (replicate 13184 0) t; length = length t; count = count }
