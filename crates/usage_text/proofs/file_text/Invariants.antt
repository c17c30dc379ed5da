-- After d turns of the loop the lines of the first d domains are placed. Assumes nothing.
use Rattle.std.proofs.Common.{◌*◌, ◌≤◌, ◌≡◌, length, replicate}
use Rattle.text.specs.Places.{Placed}
use Rattle.usage_layout.specs.Layout.{each}
use Rattle.usage_text.specs.FileText.{domain_lines}
use Rattle.usage_text.proofs.file_text.Given as goal

abbrev pub invariant-loop-d : goal.invariant-loop-d
invariant-loop-d l =
    record {
      placed : Placed (replicate 13184 0) 0 (each l.d (domain_lines l.file l.count)) l.bytes l.length;
      short : l.length ≤ l.d * 824;
      long : length l.bytes ≡ 13184;
    }
