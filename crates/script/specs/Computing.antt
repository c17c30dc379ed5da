-- The definitions by which a script computes, said once: to unfold `replaying` is to unfold each of them.
use Rattle.host.specs.Computing.{computing}
use Rattle.big_endian.specs.Numbers.{bytes, number}
use Rattle.records.specs.Records.{plan_of}
use Rattle.text.specs.Ascii.{ascii}
use Rattle.text.specs.Lines.{digits, decimal, field, fields, answer_line, numbers_line, pcpu_line}
use Rattle.host_text.specs.HostText.{vcpu_rows, pcpu_rows, host_text}
use Rattle.script.specs.Script.{carried, script_next, entry, script_after, text}

unfoldable pub replaying : Type 0
unfolding computing bytes number plan_of ascii digits decimal field fields answer_line numbers_line pcpu_line vcpu_rows pcpu_rows host_text carried
    script_next entry script_after text
replaying = Unit {0}
