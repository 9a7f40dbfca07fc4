-- Names of readers.
use Rattle.std.proofs.Common.{◌≡◌, ◌∙◌, ℕ, zero, suc, ◌<◌, ◌^◌, List, ◌∷◌, ◌++◌, length, take, drop, slice_range, ◌-◌, ap, sym, arith}
use Rattle.std.specs.Fmt.{decimal}
use Rattle.std.proofs.Math.Seq.{drop-append_seam}
use Rattle.std.proofs.lemmas.Fmt.{decimal_injective}
use Rattle.std.proofs.lemmas.List.{take-append-drop, take_all, length-drop}
use Rattle.sx_run.specs.Client.{Names}
use Rattle.sx_script.specs.Words.{front_of}
use Rattle.sx_script.proofs.Fronts.{Lacks, front_of-append}
use Rattle.sx_script.proofs.Numbers.{Lacks-decimal}

-- no colon stands in a number
no_colon : (n : ℕ) → n < 2 ^ 64 → Lacks 58 (decimal n)
no_colon n below = Lacks-decimal 58 n (λ digit small. omega (arith, small)) below

-- the bytes from a place on
pub rest_range : (bytes : List ℕ) (k : ℕ) → slice_range bytes k (length bytes) ≡ drop k bytes
rest_range bytes k = let long = length-drop k bytes in take_all (length bytes - k) (drop k bytes) (omega (arith, long))

-- the parts that were found are a reader's name and the text behind it
pub named_by : (line named digits text : List ℕ) (reader : ℕ) → line ≡ 114 ∷ named → take (length digits) named ≡ digits → drop (length digits) named ≡ 58 ∷ 32 ∷ text
    → digits ≡ decimal reader → 0 < reader → reader < 32 → Names line reader text
named_by line named digits text zero begins front behind is some known = absurd (omega (arith, some))
named_by line named digits text (suc i) begins front behind is some known =
    let parts : named ≡ digits ++ 58 ∷ 32 ∷ text =
    sym (take-append-drop (length digits) named) ∙ ap (λ (a : List ℕ). a ++ drop (length digits) named) front ∙ ap (λ (b : List ℕ). digits ++ b) behind in
    record {
      known = known;
      line_is = begins ∙ ap (λ (b : List ℕ). 114 ∷ b) (parts ∙ ap (λ (a : List ℕ). a ++ 58 ∷ 32 ∷ text) is);
    }

-- a reader's name and the text behind it are the parts that are found
pub name_parts : (line named digits : List ℕ) (i : ℕ) (text : List ℕ) → line ≡ 114 ∷ named → digits ≡ front_of 58 named → Names line (suc i) text
    → (digits ≡ decimal (suc i)) × (drop (length digits) named ≡ 58 ∷ 32 ∷ text)
name_parts line named digits i text begins front names =
    let known = names.known in
    let whole : 114 ∷ named ≡ 114 ∷ (decimal (suc i) ++ 58 ∷ 32 ∷ text) = sym begins ∙ names.line_is in
    let parts : named ≡ decimal (suc i) ++ 58 ∷ 32 ∷ text = cc in
    let same : digits ≡ decimal (suc i) =
    front ∙ ap (front_of 58) parts ∙ front_of-append 58 (decimal (suc i)) (32 ∷ text) (no_colon (suc i) (omega (arith, known))) in (
      same,
      ap (λ (d : List ℕ). drop (length d) named) same ∙ ap (λ (b : List ℕ). drop (length (decimal (suc i))) b) parts
          ∙ drop-append_seam (decimal (suc i)) (58 ∷ 32 ∷ text),
    )

-- the number that was found is the reader's
pub same_reader : (digits : List ℕ) (n i : ℕ) → digits ≡ decimal n → n < 2 ^ 32 → digits ≡ decimal (suc i) → suc i < 32 → n ≡ suc i
same_reader digits n i is below also known = decimal_injective n (suc i) (omega (arith, below)) (omega (arith, known)) (sym is ∙ also)
