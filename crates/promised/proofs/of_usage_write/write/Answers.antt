-- `promised::of_usage_write::write` meets its contract. Assumes nothing.
use Rattle.std.proofs.Common.{◌∙◌, ap, length}
use Rattle.page.proofs.Laws.{file-is, written_is, written-says}
use Rattle.promised.proofs.of_usage_write.write.Goals as goal

pub returns-clause-bytes : goal.returns-clause-bytes
returns-clause-bytes c = c.write.ensures.bytes ∙ written_is c.args.s.now c.args.p.now c.args.now

pub returns-clause-file_length : goal.returns-clause-file_length
returns-clause-file_length c = c.write.ensures.fits.0 ∙ ap length (file-is c.args.s.now c.args.p.now c.args.now)

pub returns-clause-first : goal.returns-clause-first
returns-clause-first c = c.write.ensures.first ∙ file-is c.args.s.now c.args.p.now c.args.now

pub returns-clause-says : goal.returns-clause-says
returns-clause-says c = written-says c.args.s.now c.args.p.now c.args.now c.write.ensures.says
