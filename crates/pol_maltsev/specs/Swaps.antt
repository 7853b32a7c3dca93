-- What is made of a table where two neighbouring places change their order.
use Rattle.std.specs.Prelude.{◌≡◌, ◌<◌, ◌+◌, ◌≢◌, ℕ, List, [], ◌∷◌, slice_index}
use Rattle.pol_optable.specs.Operations.{Operation, value_at, image}
use Rattle.pol_maltsev.specs.Orders.{IsSwapped}
use Rattle.pol_maltsev.specs.Tables.{SameRoot, step, IsLeastOf}

-- the rows and the roots at two neighbouring places, x directly before y
pub record Sides : Type 0 where
  pub x : ℕ
  pub y : ℕ
  pub rx : ℕ → List ℕ
  pub cx : ℕ → ℕ
  pub ry : ℕ → List ℕ
  pub cy : ℕ → ℕ

-- values of x that stay together when y comes before x
pub record StayTogether (d : ℕ) (s : Sides) (a b : ℕ) : Type 0 where
  pub here : SameRoot d s.cx a b
  pub beyond : SameRoot d s.cy (slice_index (s.rx a) s.y) (slice_index (s.rx b) s.y)

-- swap, X: what stands at x afterwards
pub record IsMadeX (f : Operation) (n : ℕ) (s : Sides) (row : ℕ → List ℕ) (root : ℕ → ℕ) : Type 0 where
  pub gone : (a : ℕ) → a < f.domain → root a < f.domain → s.cx a < f.domain
  pub chosen : (a : ℕ) → a < f.domain → s.cx a < f.domain
      → IsLeastOf f.domain (StayTogether f.domain s a) (root a)
  pub moved : (a : ℕ) → a < f.domain → s.cx a < f.domain
      → row a ≡ step f n s.y s.ry (s.rx a) (slice_index (s.rx (root a)) s.y)

-- the value at y that c leads to where x goes from p to q
abbrev pub led : Operation → Sides → ℕ → ℕ → ℕ → ℕ
led f s c p q = value_at f (c ∷ slice_index (s.rx p) s.y ∷ slice_index (s.rx q) s.y ∷ [])

-- r is the old root of a value that c leads to
pub record LeadsTo (f : Operation) (s : Sides) (c r : ℕ) : Type 0 where
  pub to : ℕ
  pub below : to < f.domain
  pub may : SameRoot f.domain s.cx (slice_index (s.ry c) s.x) to
  pub root_is : s.cy (led f s c (slice_index (s.ry c) s.x) to) ≡ r

-- u is made of the row of b, and is moved to c at y
pub record IsLed (f : Operation) (n : ℕ) (s : Sides) (b c : ℕ) (u : List ℕ) : Type 0 where
  pub to : ℕ
  pub below : to < f.domain
  pub may : SameRoot f.domain s.cx (slice_index (s.ry b) s.x) to
  pub meets : SameRoot f.domain s.cy (led f s b (slice_index (s.ry b) s.x) to) c
  pub made : u ≡ step f n s.y s.ry (image f n (s.ry b ∷ s.rx (slice_index (s.ry b) s.x) ∷ s.rx to ∷ [])) c

-- swap, Y: what stands at y afterwards
pub record IsMadeY (f : Operation) (n : ℕ) (s : Sides) (row : ℕ → List ℕ) (root : ℕ → ℕ) : Type 0 where
  pub gone : (c : ℕ) → c < f.domain → root c < f.domain → s.cy c < f.domain
  pub chosen : (c : ℕ) → c < f.domain → s.cy c < f.domain → IsLeastOf f.domain (LeadsTo f s c) (root c)
  pub kept : (c : ℕ) → c < f.domain → s.cy c < f.domain → SameRoot f.domain s.cy (root c) c → row c ≡ s.ry c
  pub moved : (c : ℕ) → c < f.domain → s.cy c < f.domain → (SameRoot f.domain s.cy (root c) c → ⊥)
      → IsLed f n s (root c) c (row c)

-- the table's sides at positions k and k + 1
abbrev pub sides : List ℕ → ℕ → (ℕ → ℕ → List ℕ) → (ℕ → ℕ → ℕ) → Sides
sides ord k row root = record {
  x = slice_index ord k;
  y = slice_index ord (k + 1);
  rx = row (slice_index ord k);
  cx = root (slice_index ord k);
  ry = row (slice_index ord (k + 1));
  cy = root (slice_index ord (k + 1));
}

-- a table after the swap of positions k and k + 1
pub record IsSwappedTable (f : Operation) (n k : ℕ) (old new : List ℕ) (row : ℕ → ℕ → List ℕ)
    (root : ℕ → ℕ → ℕ) (row' : ℕ → ℕ → List ℕ) (root' : ℕ → ℕ → ℕ) : Type 0 where
  pub order : IsSwapped k old new
  pub at_x : IsMadeX f n (sides old k row root) (row' (slice_index old k)) (root' (slice_index old k))
  pub at_y : IsMadeY f n (sides old k row root) (row' (slice_index old (k + 1))) (root' (slice_index old (k + 1)))
  pub same_rows : (p a : ℕ) → p < n → a < f.domain → p ≢ slice_index old k
      → p ≢ slice_index old (k + 1) → row' p a ≡ row p a
  pub same_roots : (p a : ℕ) → p < n → a < f.domain → p ≢ slice_index old k
      → p ≢ slice_index old (k + 1) → root' p a ≡ root p a

-- what stands at x afterwards for the value a
pub record IsLateAt (f : Operation) (n : ℕ) (s : Sides) (a : ℕ) (row : List ℕ) (root : ℕ) : Type 0 where
  pub gone : root < f.domain → s.cx a < f.domain
  pub chosen : s.cx a < f.domain → IsLeastOf f.domain (StayTogether f.domain s a) root
  pub moved : s.cx a < f.domain → row ≡ step f n s.y s.ry (s.rx a) (slice_index (s.rx root) s.y)

-- what stands at y afterwards for the value c
pub record IsEarlyAt (f : Operation) (n : ℕ) (s : Sides) (c : ℕ) (row : List ℕ) (root : ℕ) : Type 0 where
  pub gone : root < f.domain → s.cy c < f.domain
  pub chosen : s.cy c < f.domain → IsLeastOf f.domain (LeadsTo f s c) root
  pub kept : s.cy c < f.domain → SameRoot f.domain s.cy root c → row ≡ s.ry c
  pub moved : s.cy c < f.domain → ¬ SameRoot f.domain s.cy root c → IsLed f n s root c row

-- x goes from the value that the row of b has there to q, so that y comes into the class of c
pub record IsWay (f : Operation) (s : Sides) (b c q : ℕ) : Type 0 where
  pub below : q < f.domain
  pub may : SameRoot f.domain s.cx (slice_index (s.ry b) s.x) q
  pub meets : SameRoot f.domain s.cy (led f s b (slice_index (s.ry b) s.x) q) c
