-- The public call of comparing. Specification, "Comparing": an order or n out of range is 1; then the first word, and then the
-- second, is 4 if it has over 64 letters or a letter not below n.
use Prim.Native.Nat.{ℕ, Ordering}
use Rattle.std.specs.Prelude.{Bool, cond, ◌&&◌, leb, length}
use Rattle.words.specs.Word.{Word, letters_below}
use Rattle.words.specs.Order.{order_by}
use Rattle.words.specs.Refusal.{Result, answered, refused}
use Rattle.words.specs.declared.Order.{Order}

-- an order and a number of letters that a header may name
unfoldable pub order_known : Order → ℕ → Bool
order_known o n = leb o.code 1 && (leb 1 n && leb n 32)

-- a word that a query may have
unfoldable pub query_word : ℕ → Word → Bool
query_word n w = leb (length w) 64 && letters_below n w

unfoldable pub compare_result : Order → ℕ → Word → Word → Result Ordering
compare_result o n u v =
    cond (order_known o n)
    (cond (query_word n u) (cond (query_word n v) (answered (order_by o u v)) (refused 4 0)) (refused 4 0))
    (refused 1 0)
