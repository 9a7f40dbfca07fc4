-- Facts on one side of a result.
use Rattle.std.proofs.Common.{◌≡◌, sym, subst, inl, inr, Result, Ok, Err, IfOk, IfErr, MatchResult}
use Rattle.sx_tree.specs.declared.json_fault.JsonFault.{JsonFault}
use Rattle.sx_tree.specs.declared.json_fault.JsonFault.TheVariants.{BadByte, TooDeep, DuplicateName, LoneSurrogate, NumberTooLong, StringTooLong, Ended, OutOfMemory}
use Rattle.sx_json.specs.Reading.{Refuses, UnlessMemory}

pub if_ok_map : {T E : Type 0} (P Q : T → Type 0) (r : Result T E) → IfOk r P → ((x : T) → P x → Q x) → IfOk r Q
if_ok_map P Q (Ok x) h f = f x h
if_ok_map P Q (Err e) h f = tt

pub refuses_all : (P : Type 0) (f : JsonFault) → P → Refuses P f
refuses_all P (BadByte place) p = p
refuses_all P (TooDeep place) p = p
refuses_all P (DuplicateName place) p = p
refuses_all P (LoneSurrogate place) p = p
refuses_all P (NumberTooLong place) p = p
refuses_all P (StringTooLong place) p = p
refuses_all P Ended p = p
refuses_all P OutOfMemory p = tt

pub unless_map : (P Q : JsonFault → Type 0) (f : JsonFault) → (P f → Q f) → UnlessMemory P f → UnlessMemory Q f
unless_map P Q f h (inl e) = inl e
unless_map P Q f h (inr p) = inr (h p)

pub refused_by : {T : Type 0} (P : JsonFault → Type 0) (Q : Type 0) (r : Result T JsonFault) → ((f : JsonFault) → P f → Q) → IfErr r (UnlessMemory P) → IfErr r (Refuses Q)
refused_by P Q (Ok x) h p = tt
refused_by P Q (Err e) h (inl is) = subst (Refuses Q) (sym is) tt
refused_by P Q (Err e) h (inr p) = refuses_all Q e (h e p)

-- The fault of what is read is its only one, and what has one is not read.
pub no_other : {T : Type 0} (S : T → Type 0) (P : JsonFault → Type 0) (r : Result T JsonFault) (f : JsonFault) → ((x : T) → S x → ⊥) → ((g : JsonFault) → P g → g ≡ f) → IfOk r S → IfErr r (UnlessMemory P) → MatchResult r (λ _. ⊥) (UnlessMemory (λ e. e ≡ f))
no_other S P (Ok x) f none one ok err = none x ok
no_other S P (Err e) f none one ok err = unless_map P (λ g. g ≡ f) e (one e) err
