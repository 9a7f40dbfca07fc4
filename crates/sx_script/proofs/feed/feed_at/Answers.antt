use Rattle.std.proofs.Common.{◌≡◌, ℕ, ◌+◌, ◌++◌, ◌∷◌, List, Option, None, Some, IfSome, IfNone, take, drop, get_or, arith}
use Rattle.std.proofs.lemmas.Bool.{eqb-true, eq-eqb}
use Rattle.memchr.specs.Find.{IsFirstByte, is_byte}
use Rattle.sx_run.specs.Lines.{HasNoFeed}
use Rattle.sx_script.proofs.Feeds.{HasNoFeed-take, HasNoFeed-all, split_at}
use Rattle.sx_script.proofs.feed.feed_at.Goals as goal

first_feed : (bytes : List ℕ) (place : Option ℕ) → IsFirstByte (is_byte 10) bytes place → IfSome place (λ n. HasNoFeed (take n bytes))
first_feed bytes None first = tt
first_feed bytes (Some n) first =
    HasNoFeed-take bytes n (omega (arith, first.0.high)) (λ k below same. first.0.before k (omega arith) below (eq-eqb (get_or bytes k 0) 10 same))

found_feed : (bytes : List ℕ) (place : Option ℕ) → IsFirstByte (is_byte 10) bytes place → IfSome place (λ n. bytes ≡ take n bytes ++ 10 ∷ drop (n + 1) bytes)
found_feed bytes None first = tt
found_feed bytes (Some n) first = split_at bytes n 10 first.0.high (eqb-true (get_or bytes n 0) 10 first.1)

no_feed : (bytes : List ℕ) (place : Option ℕ) → IsFirstByte (is_byte 10) bytes place → IfNone place (HasNoFeed bytes)
no_feed bytes None none = HasNoFeed-all bytes (λ k below same. none k (omega arith) below (eq-eqb (get_or bytes k 0) 10 same))
no_feed bytes (Some n) none = tt

pub returns-clause-first : goal.returns-clause-first
returns-clause-first c = first_feed c.args.bytes.now c.memchr.result c.memchr.ensures

pub returns-clause-found : goal.returns-clause-found
returns-clause-found c = found_feed c.args.bytes.now c.memchr.result c.memchr.ensures

pub returns-clause-none : goal.returns-clause-none
returns-clause-none c = no_feed c.args.bytes.now c.memchr.result c.memchr.ensures
