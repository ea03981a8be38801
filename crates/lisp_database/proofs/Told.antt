-- Nonces that rows tell.
use Rattle.std.proofs.Common.{◌≡◌, ℕ, ◌<◌, List, [], ◌∷◌, ◌++◌, length, get_or, All}
use Rattle.std.proofs.lemmas.List.Elements.{All-push}
use Rattle.lisp_store.specs.declared.kept_nonce.KeptNonce.{KeptNonce}
use Rattle.sqlite.specs.Order.{Row}
use Rattle.lisp_database.specs.Columns.{TellsNonce, IsTold}

-- the nonce of one more row stands behind them
pub one_more : (rows : List Row) (nonces : List KeptNonce) (kept : KeptNonce) (i : ℕ) (row : Row) → i < length rows → get_or rows i row ≡ row → TellsNonce row kept → All (IsTold rows) nonces
    → All (IsTold rows) (nonces ++ kept ∷ [])
one_more rows nonces kept i row low is tells all = All-push (IsTold rows) nonces kept all (i, row, low, is, tells)
