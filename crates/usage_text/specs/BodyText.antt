-- A domain's body of a usage file as text.
use Rattle.std.specs.Prelude.{ℕ, min, List, length, replicate}
use Rattle.text.specs.Lines.{usage_line}
use Rattle.text.specs.Places.{over}
use Rattle.usage_layout.specs.Layout.{each}
use Rattle.usage_parse.specs.Domains.{vcpus_of, weight_at, service_at}
use Rattle.usage_text.specs.declared.BodyText.{BodyText}

-- what a body says of vCPU v, as of the domain of that number
unfoldable pub vcpu_line : ℕ → List ℕ → ℕ → List ℕ
vcpu_line domain body v = usage_line domain v (weight_at body v) (service_at body v)

-- a line for each vCPU of a body, of which a domain has at most eight
unfoldable pub body_lines : ℕ → List ℕ → List ℕ
body_lines domain body = each (min (vcpus_of body) 8) (vcpu_line domain body)

-- that text: zeros past it
abbrev pub body_text_of : List ℕ → BodyText
body_text_of t = record { bytes = over (replicate 824 0) t; length = length t }
