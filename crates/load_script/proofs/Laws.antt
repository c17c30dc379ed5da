-- The laws of loads. Assumes nothing.

-- what is left after n records, and how long their bytes are
pub use Rattle.load_script.proofs.Sizes.{size-after, stretch-length, script-length}
-- stretches of any sizes, one after another, make the script, and record n stands at n * 20
pub use Rattle.load_script.proofs.Stretches.{after-after, stretches, script_splits, nth}
-- what is handed out, a record or a stretch, and what is left make the script
pub use Rattle.load_script.proofs.Handing.{over, next-is, next-then, fill-then, fill-written}
-- what an opened load is told, and which load it is
pub use Rattle.load_script.proofs.Opening.{bad_seed, too_large, done, refused-empty, size-begin}
-- a build, then calls, each drawn where the record before it left the generator and the clock
pub use Rattle.load_script.proofs.Chain.{handed_out, first-is-build, after_record, record_is}
-- the same numbers make the same script, and a longer load begins with the shorter one
pub use Rattle.load_script.proofs.Longer.{same-script, more-calls}
-- every record fits its bytes, and is read back from the script
pub use Rattle.load_script.proofs.Typed.{begin-typed, after-typed, record_fits, nth_read}
-- the clock never runs back, and the generator is never at 0
pub use Rattle.load_script.proofs.Clock.{clock-never-back, clock-moves, steps-whole, state-nonzero}
-- a script builds the host of a load, then makes each call that is meant
pub use Rattle.load_script.proofs.Reading.{build-read, call-read}
