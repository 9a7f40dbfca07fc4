-- What opening answers.
use Rattle.std.proofs.Common.{ℕ, inl, inr, List, Option, None, Some, IfSome, IfOk, IfErr, Result, Ok, Err, refl, subst}
use Rattle.sx_layout.proofs.BornReadings.{reads_one}
use Rattle.sx_layout.specs.Born as born
use Rattle.sx_layout.specs.Born.{Reading, Reads}
use Rattle.sx_log.specs.Creating.{birth_of}
use Rattle.sx_log.specs.Opening.{Explains, IsGiven, IsOpened}
use Rattle.sx_log.specs.declared.fault.LogFault.{LogFault}
use Rattle.sx_log.specs.declared.fault.LogFault.TheVariants.{Failed, NotOurs, Unborn, Born, Damaged, OutOfMemory}
use Rattle.sx_log.specs.declared.log.Log.{Log}

-- the answer that was given is that of the one reading
pub all_given : (bytes : Option (List ℕ)) (size : ℕ) (result : Result Log LogFault) → IfOk result (IsOpened bytes size) → IfErr result (Explains bytes)
    → IfSome bytes (λ image. (reading : Reading) → Reads image reading → IsGiven reading result)
all_given None size result opened explains = tt
all_given (Some image) size (Ok log) opened explains = λ reading reads.
    subst (λ (r : Reading). IsGiven r (Ok log)) (reads_one image (born.Log (birth_of log.birth) opened.groups) reading (opened.has, opened.keep) reads) (refl, opened.rows)
all_given (Some image) size (Err Failed) opened explains = λ reading reads. other reading
  where
    other : (reading : Reading) → IsGiven reading (Err Failed)
    other (born.Log birth groups) = inl refl
    other born.Unborn = inr (inl refl)
    other (born.NotOurs first) = inr (inl refl)
    other (born.Damaged damage) = inr (inl refl)
all_given (Some image) size (Err OutOfMemory) opened explains = λ reading reads. other reading
  where
    other : (reading : Reading) → IsGiven reading (Err OutOfMemory)
    other (born.Log birth groups) = inr refl
    other born.Unborn = inr (inr refl)
    other (born.NotOurs first) = inr (inr refl)
    other (born.Damaged damage) = inr (inr refl)
all_given (Some image) size (Err (NotOurs first)) opened explains = λ reading reads.
    subst (λ (r : Reading). IsGiven r (Err (NotOurs first))) (reads_one image (born.NotOurs first) reading explains reads) (inl refl)
all_given (Some image) size (Err Unborn) opened explains = λ reading reads.
    subst (λ (r : Reading). IsGiven r (Err Unborn)) (reads_one image born.Unborn reading explains reads) (inl refl)
all_given (Some image) size (Err Born) opened explains = absurd explains
all_given (Some image) size (Err (Damaged damage)) opened explains = λ reading reads.
    subst (λ (r : Reading). IsGiven r (Err (Damaged damage))) (reads_one image (born.Damaged damage) reading explains.1 reads) (inl refl)
