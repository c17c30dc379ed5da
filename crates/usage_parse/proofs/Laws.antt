-- What other crates cite of these proofs.

-- the count that a reader keeps stands for its file
pub use Rattle.usage_parse.proofs.Opened.{answer-of, stretch-of, place-of, count-of}
-- what a body gives of each vCPU, by the file's own bytes
pub use Rattle.usage_parse.proofs.FileFigures.{file-read}
