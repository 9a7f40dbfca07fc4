-- The length of a file.
use Rattle.std.specs.Prelude.{◌≡◌, ℕ, List, length, Option, None, Some}

-- that of the bytes where the file tells them, else the one that was asked
abbrev pub length_in : Option (List ℕ) → ℕ → ℕ
length_in None asked = asked
length_in (Some all) asked = length all

pub told_length : (bytes : Option (List ℕ)) (asked : ℕ) (all : List ℕ) → bytes ≡ Some all → length all ≡ length_in bytes asked
told_length None asked all told = cc
told_length (Some bytes) asked all told = cc

pub told_something : {P : Type 0} (bytes : List ℕ) → Some bytes ≡ None → P
told_something bytes silent = cc
