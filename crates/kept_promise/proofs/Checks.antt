-- What a chain of checks may fail by: what each of its checks may. And what those of a directory and of a name may fail by.
use Rattle.std.proofs.Common.{◌≡◌, ℕ, ◌≤◌, List, length, Option, Some, None, Result, Ok, Err, Bool, true, false, refl, sym, subst, arith, nat_lt, if◌then◌else◌}
use Rattle.std.proofs.lemmas.Bool.Decides.{nat_tests}
use Rattle.xdr_codec.specs.Status.{status_number}
use Rattle.xdr_codec.specs.declared.status.Status.{Status}
use Rattle.xdr_codec.specs.declared.status.Status.TheVariants as status
use Rattle.tree_nodes.specs.declared.node.Node.{Node}
use Rattle.tree_nodes.specs.Nodes.{with_id}
use Rattle.tree_reading.specs.Chain.{◌>>=◌}
use Rattle.tree_reading.specs.Names.{is_misspelt, spelt}
use Rattle.tree_reading.specs.Tree.{is_directory, or_stale, node_of, directory_of, directory_or}

-- it fails by such a status, if it does
abbrev pub FailsBy : {A : Type 0} → (ℕ → Type 0) → Result A Status → Type 0
FailsBy P r = (s : Status) → r ≡ Err s → P (status_number s)

module _ (P : ℕ → Type 0) where
  pub done : {A : Type 0} (x : A) → FailsBy P (Ok x)
  done x s e = absurd cc

  pub fails : {A : Type 0} (t : Status) → P (status_number t) → FailsBy {A = A} P (Err t)
  fails {A = A} t h s e = subst (λ (z : Status). P (status_number z)) (same e) h
    where
      same : ◌≡◌ {A = Result A Status} (Err t) (Err s) → t ≡ s
      same e = cc

  pub chain : {A B : Type 0} (r : Result A Status) (f : A → Result B Status) → FailsBy P r → ((x : A) → FailsBy P (f x)) → FailsBy P (r >>= f)
  chain (Ok x) f h g = g x
  chain (Err t) f h g = fails t (h t refl)

  pub node_fails : (nodes : List Node) (id : ℕ) → P 70 → FailsBy P (node_of nodes id)
  node_fails nodes id stale = by (with_id nodes id)
    where
      by : (o : Option Node) → FailsBy P (or_stale o)
      by None = fails status.Stale stale
      by (Some n) = done n

  pub directory_fails : (nodes : List Node) (id : ℕ) → P 20 → P 70 → FailsBy P (directory_of nodes id)
  directory_fails nodes id not_one stale = chain (node_of nodes id) (directory_or status.NotDir) (node_fails nodes id stale) (λ n. by n (is_directory n.body))
    where
      by : (n : Node) (b : Bool) → FailsBy P (if b then Ok n else Err status.NotDir)
      by n true = done n
      by n false = fails status.NotDir not_one

  -- by nothing, where a name is spelt
  pub spelt_fails : (name : List ℕ) → length name ≤ 255 → is_misspelt name ≡ false → FailsBy P (spelt name)
  spelt_fails name short right =
      let not_long : nat_lt 255 (length name) ≡ false = grind (arith, nat_tests, short) in
      subst (λ (b : Bool). FailsBy P (if b then Err status.NameTooLong else (if is_misspelt name then Err status.Acces else Ok tt))) (sym not_long)
      (subst (λ (b : Bool). FailsBy P (if b then Err status.Acces else Ok tt)) (sym right) (done tt))
