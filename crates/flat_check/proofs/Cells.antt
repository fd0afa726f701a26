-- Reading and writing a cell by the place of its name.
use Rattle.std.proofs.Common.{◌≡◌, ℕ, zero, suc, ◌+◌, ◌<◌, true, false, cond, List, [], ◌∷◌, ◌++◌, length, take, drop, get_or, None, sym, ap, ◌∙◌, arith, drop-cons, add-one}
use Rattle.std.specs.Prelude.{slice_set}
use Rattle.std.specs.Str.{bytes_eq}
use Rattle.murphi_ast.specs.State.{Name, State, Cell, cell_of, with_cell}

cell_cons : (v name : Name) (vs : List Name) (c : Cell) (cs : State) → bytes_eq v name ≡ false → cell_of (v ∷ vs) (c ∷ cs) name ≡ cell_of vs cs name
cell_cons v name vs c cs h = ap (λ b. cond b c (cell_of vs cs name)) h

-- a name that is not the one sought is passed over
pub cell_next : (vs : List Name) (cells : State) (name v : Name) (i : ℕ) → i < length vs → i < length cells → v ≡ get_or vs i v → bytes_eq v name ≡ false →
    cell_of (drop (i + 1) vs) (drop (i + 1) cells) name ≡ cell_of (drop i vs) (drop i cells) name
cell_next vs cells name v i hv hc is h =
    let same : bytes_eq (get_or vs i v) name ≡ false = ap (λ x. bytes_eq x name) (sym is) ∙ h in
    rw (add-one, drop-cons vs i v hv, drop-cons cells i None hc) (sym (cell_cons (get_or vs i v) name (drop (suc i) vs) (get_or cells i None) (drop (suc i) cells) same))

with_cons_other : (v name : Name) (vs : List Name) (c new : Cell) (cs : State) → bytes_eq v name ≡ false → with_cell (v ∷ vs) (c ∷ cs) name new ≡ c ∷ with_cell vs cs name new
with_cons_other v name vs c new cs h = ap (λ b. cond b (new ∷ cs) (c ∷ with_cell vs cs name new)) h

with_cons_same : (v name : Name) (vs : List Name) (c new : Cell) (cs : State) → bytes_eq v name ≡ true → with_cell (v ∷ vs) (c ∷ cs) name new ≡ new ∷ cs
with_cons_same v name vs c new cs h = ap (λ b. cond b (new ∷ cs) (c ∷ with_cell vs cs name new)) h

-- the cell of a name that is not the one sought stays
with_next_at : (vs : List Name) (cells : State) (name d : Name) (new : Cell) (i : ℕ) → i < length vs → i < length cells → bytes_eq (get_or vs i d) name ≡ false →
    take (suc i) cells ++ with_cell (drop (suc i) vs) (drop (suc i) cells) name new ≡ take i cells ++ with_cell (drop i vs) (drop i cells) name new
with_next_at [] cells name d new i hv hc h = absurd (omega arith)
with_next_at (v ∷ vs) [] name d new i hv hc h = absurd (omega arith)
with_next_at (v ∷ vs) (c ∷ cs) name d new zero hv hc h = sym (with_cons_other v name vs c new cs h)
with_next_at (v ∷ vs) (c ∷ cs) name d new (suc i) hv hc h = ap (λ t. c ∷ t) (with_next_at vs cs name d new i (omega arith) (omega arith) h)

pub with_next : (vs : List Name) (cells : State) (name v : Name) (new : Cell) (i : ℕ) → i < length vs → i < length cells → v ≡ get_or vs i v → bytes_eq v name ≡ false →
    take (i + 1) cells ++ with_cell (drop (i + 1) vs) (drop (i + 1) cells) name new ≡ take i cells ++ with_cell (drop i vs) (drop i cells) name new
with_next vs cells name v new i hv hc is h =
    rw add-one (with_next_at vs cells name v new i hv hc (ap (λ x. bytes_eq x name) (sym is) ∙ h))

-- the cell of the name that is sought is written
with_found_at : (vs : List Name) (cells : State) (name d : Name) (new : Cell) (i : ℕ) → i < length vs → i < length cells → bytes_eq (get_or vs i d) name ≡ true →
    slice_set cells i new ≡ take i cells ++ with_cell (drop i vs) (drop i cells) name new
with_found_at [] cells name d new i hv hc h = absurd (omega arith)
with_found_at (v ∷ vs) [] name d new i hv hc h = absurd (omega arith)
with_found_at (v ∷ vs) (c ∷ cs) name d new zero hv hc h = sym (with_cons_same v name vs c new cs h)
with_found_at (v ∷ vs) (c ∷ cs) name d new (suc i) hv hc h = ap (λ t. c ∷ t) (with_found_at vs cs name d new i (omega arith) (omega arith) h)

pub with_found : (vs : List Name) (cells : State) (name v : Name) (new : Cell) (i : ℕ) → i < length vs → i < length cells → v ≡ get_or vs i v → bytes_eq v name ≡ true →
    slice_set cells i new ≡ take i cells ++ with_cell (drop i vs) (drop i cells) name new
with_found vs cells name v new i hv hc is h = with_found_at vs cells name v new i hv hc (ap (λ x. bytes_eq x name) (sym is) ∙ h)
