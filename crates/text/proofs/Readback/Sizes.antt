-- A document is as deep as the tree that says it, and has as many values: `root_depth`, `root_count`. Assumes nothing.
use mathlib.Core.Path.{◌≡◌, refl, ap}
use mathlib.Core.List.{List, []}
use Prim.Native.Nat.{ℕ, suc}
use native.Mathlib.Omega.{arith}
use Rattle.text.specs.Tree.{Bracket, square, curly, Forest, leaf, node, size}
use Rattle.text.specs.Tree as T
use Rattle.text.specs.Grammar.{depth_of}
use Rattle.text.specs.Doc.{Doc, Members, boxed, members_of, count_of, count_all}
use Rattle.text.specs.Writable.{depth_in, depth_all}
use Rattle.text.proofs.Documents.{count_members}

box_depth : (b : Bracket) (ms : Members) → depth_in (boxed b ms) ≡ suc (depth_all ms)
unfolding depth_in
box_depth square ms = refl
box_depth curly ms = refl

depth_members : (t : List ℕ) (f : Forest) → depth_all (members_of t f) ≡ depth_of f
unfolding members_of depth_in depth_all depth_of
depth_members t T.none = refl
depth_members t (leaf kind ns ne from to rest) = omega (arith, depth_members t rest)
depth_members t (node b ns ne from to inside rest) = omega (arith, box_depth b (members_of t inside), depth_members t inside, depth_members t rest)

-- a tree of one value
module _ (t : List ℕ) (f : Forest) {d : Doc} (is : members_of t f ≡ Members.member [] [] d Members.empty) where
  pub root_count : size f ≡ count_of d
  unfolding count_all
  root_count = omega (arith, count_members t f, ap count_all is)

  pub root_depth : depth_of f ≡ depth_in d
  unfolding depth_all
  root_depth = omega (arith, depth_members t f, ap depth_all is)
