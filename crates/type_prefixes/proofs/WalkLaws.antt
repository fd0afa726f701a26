-- The walk gives the depth: that of what was there before, or of the part inside its levels, whichever is more.
use Rattle.std.proofs.Common.{◌≡◌, ℕ, zero, suc, ◌+◌, max, List, [], ◌∷◌, refl, ap, sym, ◌∙◌, subst, arith}
use Rattle.std.specs.Prelude.{Option, slice_get, unwrap_or}
use Rattle.murphi_typed.specs.declared.expr.Root.{Root}
use Rattle.murphi_typed.specs.declared.expr.Root.TheVariants as root
use Rattle.murphi_typed.specs.declared.expr.Expr as x
use Rattle.murphi_typed.specs.declared.expr.Expr.{Expr, end_of-Expr, more_of-Expr, Row_of-Link, end_of-Link, more_of-Link}
use Rattle.murphi_typed.specs.declared.expr.Designator as d
use Rattle.murphi_typed.specs.declared.expr.Designator.{Designator, Row_of-Selector, end_of-Selector, more_of-Selector}
use Rattle.murphi_typed.specs.declared.expr.Selector as select
use Rattle.murphi_typed.specs.declared.expr.Arguments as a
use Rattle.murphi_typed.specs.declared.expr.Arguments.{Arguments, Row_of-Argument, end_of-Argument, more_of-Argument}
use Rattle.murphi_typed.specs.declared.expr.Argument as argument
use Rattle.murphi_typed.specs.declared.stmt.Stmt as s
use Rattle.murphi_typed.specs.declared.stmt.Stmt.{Stmt, Row_of-Stmt, end_of-Stmt, more_of-Stmt, Row_of-Arm, end_of-Arm, more_of-Arm, Row_of-Case, end_of-Case, more_of-Case}
use Rattle.murphi_typed.specs.Forms.{NotForm, MinusForm, CompareForm, ImpliesForm, ChoiceForm, QuantifiedForm}
use Rattle.murphi_typed.specs.Prefix.{Depths, level, root_depth, depth_of, chain_depth, place_depth, indices_depth, args_depth, row_args_depth, depths_of, row_depths, arg_depth, labels_depth, stmt_depth, body_depth, arms_depth, cases_depth}
use Rattle.type_prefixes.specs.declared.depth.Depth.{Depth}
use Rattle.type_prefixes.specs.Summaries.{first_place, later_places, steep, depth_with, empty, called, touched, raised, root_walked}
use Rattle.type_prefixes.specs.Walks.{walked, links_walked, place_walked, indices_walked, args_walked, row_walked, arg_walked, labels_walked, stmt_walked, body_walked, arms_walked, cases_walked}
use Rattle.type_prefixes.proofs.MaxLemmas.{touch-step, both-step, below-step, call-step, most-step, root-step, raise-none, raise-new, raise-first, raise-later, level-in}

-- summaries that say what calls do
abbrev pub Agrees : List Depth → Depths → Type 0
Agrees cs calls = (k : ℕ) (ds : List ℕ) → depth_with (called cs k) ds ≡ max (steep [] ds) (calls k ds)

-- what a walk with this result has gained
abbrev pub Gains : List ℕ → Depth → ℕ → ℕ → Depth → Type 0
Gains F S n depth after = depth_with after F ≡ max (depth_with S F) (n + depth)

touch-is : (F : List ℕ) (n : ℕ) (S : Depth) → Gains F S n 0 (touched n S)
touch-is F n S = touch-step S.own (steep S.formals F) n

raise-is : (n : ℕ) (F xs : List ℕ) (k : ℕ) → max n (steep (raised xs k n) F) ≡ max (steep xs F) (n + unwrap_or (slice_get F k) 0)
raise-is n [] xs k = raise-none n
raise-is n (d ∷ ds) [] zero = raise-new n d (steep [] ds)
raise-is n (d ∷ ds) (a ∷ more) zero = raise-first n a d (steep more ds)
raise-is n (d ∷ ds) [] (suc k) = raise-later n (0 + d) (steep [] ds) (steep (raised [] k n) ds) (unwrap_or (slice_get ds k) 0) (raise-is n ds [] k)
raise-is n (d ∷ ds) (a ∷ more) (suc k) = raise-later n (a + d) (steep more ds) (steep (raised more k n) ds) (unwrap_or (slice_get ds k) 0) (raise-is n ds more k)

root-is : (F : List ℕ) (r : Root) (n : ℕ) (S : Depth) → Gains F S n (root_depth F r) (root_walked r n S)
root-is F (root.Formal k) n S = root-step S.own n (steep S.formals F) (steep (raised S.formals k n) F) (unwrap_or (slice_get F k) 0) (raise-is n F S.formals k)
root-is F (root.Place k) n S = root-step S.own n (steep S.formals F) (steep (raised S.formals k n) F) (unwrap_or (slice_get F k) 0) (raise-is n F S.formals k)
root-is F (root.Global k) n S = touch-is F n S
root-is F (root.Local k) n S = touch-is F n S

both : (F : List ℕ) (n a b : ℕ) (S S1 S2 : Depth) → Gains F S n a S1 → Gains F S1 n b S2 → Gains F S n (max a b) S2
both F n a b S S1 S2 p q = both-step (depth_with S F) n a b (depth_with S1 F) (depth_with S2 F) p q

below : (F : List ℕ) (n p a b : ℕ) (S S1 S2 : Depth) → Gains F S (n + p) a S1 → Gains F S1 n b S2 → Gains F S n (max (p + a) b) S2
below F n p a b S S1 S2 u v = below-step (depth_with S F) n p a b (depth_with S1 F) (depth_with S2 F) u v

inner : (F : List ℕ) (n m a b : ℕ) (S S1 : Depth) → m + a ≡ n + b → Gains F S m a S1 → Gains F S n b S1
inner F n m a b S S1 e g = g ∙ ap (λ k. max (depth_with S F) k) e

mutual
  unfolding depth_of

  pub most-is : (calls : Depths) (F : List ℕ) (args : Arguments) → args_depth calls F args ≡ steep [] (depths_of calls F args)
  most-is calls F (a.Of' _ args) = row-most-is calls F args

  row-most-is : {m : _} (calls : Depths) (F : List ℕ) (row : Row_of-Argument m) → row_args_depth calls F row ≡ steep [] (row_depths calls F row)
  row-most-is calls F end_of-Argument = refl
  row-most-is calls F (more_of-Argument first rest) = most-step (arg_depth calls F first) (steep [] (row_depths calls F rest)) (row_args_depth calls F rest) (row-most-is calls F rest)

call-is : (cs : List Depth) (calls : Depths) → Agrees cs calls → (F : List ℕ) (k : ℕ) (args : Arguments) (n : ℕ) (S S2 : Depth) → Gains F (touched (n + (called cs k).own) S) n (steep (called cs k).formals (depths_of calls F args)) S2 → Gains F S n (max (args_depth calls F args) (calls k (depths_of calls F args))) S2
call-is cs calls agree F k args n S S2 gains =
    call-step (depth_with S F) n (called cs k).own (steep (called cs k).formals (depths_of calls F args)) (steep [] (depths_of calls F args)) (calls k (depths_of calls F args)) (args_depth calls F args)
    (depth_with (touched (n + (called cs k).own) S) F) (depth_with S2 F) (touch-is F (n + (called cs k).own) S) gains (agree k (depths_of calls F args)) (most-is calls F args)

mutual
  unfolding depth_of walked

  pub walk-is : (cs : List Depth) (calls : Depths) → Agrees cs calls → (F : List ℕ) (e : Expr) (n : ℕ) (S : Depth) → Gains F S n (depth_of calls F e) (walked cs e n S)
  walk-is cs calls agree F (x.Known v) n S = touch-is F n S
  walk-is cs calls agree F (x.Bound k) n S = touch-is F n S
  walk-is cs calls agree F (x.Read place) n S = place-is cs calls agree F place n S
  walk-is cs calls agree F (x.Call k args _) n S =
      call-is cs calls agree F k args n S (args_walked cs (called cs k).formals args n (touched (n + (called cs k).own) S))
      (args-is cs calls agree F (called cs k).formals args n (touched (n + (called cs k).own) S))
  walk-is cs calls agree F (NotForm body) n S = walk-is cs calls agree F body n S
  walk-is cs calls agree F (MinusForm body) n S = walk-is cs calls agree F body n S
  walk-is cs calls agree F (x.Chain' _ (more_of-Expr first end_of-Expr) _ rest) n S =
      both F n (depth_of calls F first) (chain_depth calls F rest) S (walked cs first n S) (links_walked cs rest n (walked cs first n S))
      (walk-is cs calls agree F first n S) (links-is cs calls agree F rest n (walked cs first n S))
  walk-is cs calls agree F (CompareForm op left right) n S =
      both F n (depth_of calls F left) (depth_of calls F right) S (walked cs left n S) (walked cs right n (walked cs left n S))
      (walk-is cs calls agree F left n S) (walk-is cs calls agree F right n (walked cs left n S))
  walk-is cs calls agree F (ImpliesForm left right) n S =
      both F n (depth_of calls F left) (depth_of calls F right) S (walked cs left n S) (walked cs right n (walked cs left n S))
      (walk-is cs calls agree F left n S) (walk-is cs calls agree F right n (walked cs left n S))
  walk-is cs calls agree F (ChoiceForm test one other) n S =
      both F n (depth_of calls F test) (max (depth_of calls F one) (depth_of calls F other)) S (walked cs test n S) (walked cs other n (walked cs one n (walked cs test n S)))
      (walk-is cs calls agree F test n S)
      (both F n (depth_of calls F one) (depth_of calls F other) (walked cs test n S) (walked cs one n (walked cs test n S)) (walked cs other n (walked cs one n (walked cs test n S)))
      (walk-is cs calls agree F one n (walked cs test n S)) (walk-is cs calls agree F other n (walked cs one n (walked cs test n S))))
  walk-is cs calls agree F (QuantifiedForm all over body) n S =
      inner F n (level over n) (depth_of calls F body) (level over (depth_of calls F body)) S (walked cs body (level over n) S)
      (level-in over n (depth_of calls F body)) (walk-is cs calls agree F body (level over n) S)
  walk-is cs calls agree F (x.IsUndefined place) n S = place-is cs calls agree F place n S

  links-is : {m : _} (cs : List Depth) (calls : Depths) → Agrees cs calls → (F : List ℕ) (row : Row_of-Link m) (n : ℕ) (S : Depth) → Gains F S n (chain_depth calls F row) (links_walked cs row n S)
  links-is cs calls agree F end_of-Link n S = touch-is F n S
  links-is cs calls agree F (more_of-Link op operand rest) n S =
      both F n (depth_of calls F operand) (chain_depth calls F rest) S (walked cs operand n S) (links_walked cs rest n (walked cs operand n S))
      (walk-is cs calls agree F operand n S) (links-is cs calls agree F rest n (walked cs operand n S))

  pub place-is : (cs : List Depth) (calls : Depths) → Agrees cs calls → (F : List ℕ) (place : Designator) (n : ℕ) (S : Depth) → Gains F S n (place_depth calls F place) (place_walked cs place n S)
  place-is cs calls agree F (d.Of' r _ selectors _) n S =
      both F n (root_depth F r) (indices_depth calls F selectors) S (root_walked r n S) (indices_walked cs selectors n (root_walked r n S))
      (root-is F r n S) (indices-is cs calls agree F selectors n (root_walked r n S))

  indices-is : {m : _} (cs : List Depth) (calls : Depths) → Agrees cs calls → (F : List ℕ) (row : Row_of-Selector m) (n : ℕ) (S : Depth) → Gains F S n (indices_depth calls F row) (indices_walked cs row n S)
  indices-is cs calls agree F end_of-Selector n S = touch-is F n S
  indices-is cs calls agree F (more_of-Selector (select.Field name) rest) n S = indices-is cs calls agree F rest n S
  indices-is cs calls agree F (more_of-Selector (select.Index over index) rest) n S =
      both F n (depth_of calls F index) (indices_depth calls F rest) S (walked cs index n S) (indices_walked cs rest n (walked cs index n S))
      (walk-is cs calls agree F index n S) (indices-is cs calls agree F rest n (walked cs index n S))

  pub args-is : (cs : List Depth) (calls : Depths) → Agrees cs calls → (F places : List ℕ) (args : Arguments) (n : ℕ) (S : Depth) → Gains F S n (steep places (depths_of calls F args)) (args_walked cs places args n S)
  args-is cs calls agree F places (a.Of' _ args) n S = row-is cs calls agree F places args n S

  row-is : {m : _} (cs : List Depth) (calls : Depths) → Agrees cs calls → (F places : List ℕ) (row : Row_of-Argument m) (n : ℕ) (S : Depth) → Gains F S n (steep places (row_depths calls F row)) (row_walked cs places row n S)
  row-is cs calls agree F places end_of-Argument n S = touch-is F n S
  row-is cs calls agree F places (more_of-Argument first rest) n S =
      below F n (first_place places) (arg_depth calls F first) (steep (later_places places) (row_depths calls F rest)) S (arg_walked cs first (n + first_place places) S) (row_walked cs (later_places places) rest n (arg_walked cs first (n + first_place places) S))
      (arg-is cs calls agree F first (n + first_place places) S) (row-is cs calls agree F (later_places places) rest n (arg_walked cs first (n + first_place places) S))

  arg-is : (cs : List Depth) (calls : Depths) → Agrees cs calls → (F : List ℕ) (one : argument.Argument) (n : ℕ) (S : Depth) → Gains F S n (arg_depth calls F one) (arg_walked cs one n S)
  arg-is cs calls agree F (argument.Copy place) n S = place-is cs calls agree F place n S
  arg-is cs calls agree F (argument.CopyAll place) n S = place-is cs calls agree F place n S
  arg-is cs calls agree F (argument.Value body) n S = walk-is cs calls agree F body n S
  arg-is cs calls agree F (argument.Place place) n S = place-is cs calls agree F place n S

labels-is : (cs : List Depth) (calls : Depths) → Agrees cs calls → (F : List ℕ) (labels : List Expr) (n : ℕ) (S : Depth) → Gains F S n (labels_depth calls F labels) (labels_walked cs labels n S)
labels-is cs calls agree F [] n S = touch-is F n S
labels-is cs calls agree F (label ∷ labels) n S =
    both F n (depth_of calls F label) (labels_depth calls F labels) S (walked cs label n S) (labels_walked cs labels n (walked cs label n S))
    (walk-is cs calls agree F label n S) (labels-is cs calls agree F labels n (walked cs label n S))

mutual
  unfolding stmt_depth stmt_walked

  pub stmt-is : (cs : List Depth) (calls : Depths) → Agrees cs calls → (F : List ℕ) (one : Stmt) (n : ℕ) (S : Depth) → Gains F S n (stmt_depth calls F one) (stmt_walked cs one n S)
  stmt-is cs calls agree F (s.Block' _ body) n S = body-is cs calls agree F body n S
  stmt-is cs calls agree F (s.Assign to into body) n S =
      both F n (place_depth calls F to) (depth_of calls F body) S (place_walked cs to n S) (walked cs body n (place_walked cs to n S))
      (place-is cs calls agree F to n S) (walk-is cs calls agree F body n (place_walked cs to n S))
  stmt-is cs calls agree F (s.Copy to into from) n S =
      both F n (place_depth calls F to) (place_depth calls F from) S (place_walked cs to n S) (place_walked cs from n (place_walked cs to n S))
      (place-is cs calls agree F to n S) (place-is cs calls agree F from n (place_walked cs to n S))
  stmt-is cs calls agree F (s.CopyAll to from) n S =
      both F n (place_depth calls F to) (place_depth calls F from) S (place_walked cs to n S) (place_walked cs from n (place_walked cs to n S))
      (place-is cs calls agree F to n S) (place-is cs calls agree F from n (place_walked cs to n S))
  stmt-is cs calls agree F (s.Call k args at) n S =
      call-is cs calls agree F k args n S (args_walked cs (called cs k).formals args n (touched (n + (called cs k).own) S))
      (args-is cs calls agree F (called cs k).formals args n (touched (n + (called cs k).own) S))
  stmt-is cs calls agree F (s.If' _ arms _ otherwise at) n S =
      both F n (arms_depth calls F arms) (body_depth calls F otherwise) S (arms_walked cs arms n S) (body_walked cs otherwise n (arms_walked cs arms n S))
      (arms-is cs calls agree F arms n S) (body-is cs calls agree F otherwise n (arms_walked cs arms n S))
  stmt-is cs calls agree F (s.Switch' on _ cases _ otherwise at) n S =
      both F n (depth_of calls F on) (max (cases_depth calls F cases) (body_depth calls F otherwise)) S (walked cs on n S) (body_walked cs otherwise n (cases_walked cs cases n (walked cs on n S)))
      (walk-is cs calls agree F on n S)
      (both F n (cases_depth calls F cases) (body_depth calls F otherwise) (walked cs on n S) (cases_walked cs cases n (walked cs on n S)) (body_walked cs otherwise n (cases_walked cs cases n (walked cs on n S)))
      (cases-is cs calls agree F cases n (walked cs on n S)) (body-is cs calls agree F otherwise n (cases_walked cs cases n (walked cs on n S))))
  stmt-is cs calls agree F (s.For' over _ body at) n S =
      inner F n (level over n) (body_depth calls F body) (level over (body_depth calls F body)) S (body_walked cs body (level over n) S)
      (level-in over n (body_depth calls F body)) (body-is cs calls agree F body (level over n) S)
  stmt-is cs calls agree F (s.Clear place type at) n S = place-is cs calls agree F place n S
  stmt-is cs calls agree F (s.Undefine place at) n S = place-is cs calls agree F place n S
  stmt-is cs calls agree F (s.Error at) n S = touch-is F n S
  stmt-is cs calls agree F (s.Assert test at) n S = walk-is cs calls agree F test n S
  stmt-is cs calls agree F (s.PutText at) n S = touch-is F n S
  stmt-is cs calls agree F (s.Put shown at) n S = walk-is cs calls agree F shown n S
  stmt-is cs calls agree F (s.Leave at) n S = touch-is F n S
  stmt-is cs calls agree F (s.Return body at) n S = walk-is cs calls agree F body n S

  body-is : {m : _} (cs : List Depth) (calls : Depths) → Agrees cs calls → (F : List ℕ) (row : Row_of-Stmt m) (n : ℕ) (S : Depth) → Gains F S n (body_depth calls F row) (body_walked cs row n S)
  body-is cs calls agree F end_of-Stmt n S = touch-is F n S
  body-is cs calls agree F (more_of-Stmt first rest) n S =
      both F n (stmt_depth calls F first) (body_depth calls F rest) S (stmt_walked cs first n S) (body_walked cs rest n (stmt_walked cs first n S))
      (stmt-is cs calls agree F first n S) (body-is cs calls agree F rest n (stmt_walked cs first n S))

  arms-is : {m : _} (cs : List Depth) (calls : Depths) → Agrees cs calls → (F : List ℕ) (row : Row_of-Arm m) (n : ℕ) (S : Depth) → Gains F S n (arms_depth calls F row) (arms_walked cs row n S)
  arms-is cs calls agree F end_of-Arm n S = touch-is F n S
  arms-is cs calls agree F (more_of-Arm test _ body rest) n S =
      both F n (depth_of calls F test) (max (body_depth calls F body) (arms_depth calls F rest)) S (walked cs test n S) (arms_walked cs rest n (body_walked cs body n (walked cs test n S)))
      (walk-is cs calls agree F test n S)
      (both F n (body_depth calls F body) (arms_depth calls F rest) (walked cs test n S) (body_walked cs body n (walked cs test n S)) (arms_walked cs rest n (body_walked cs body n (walked cs test n S)))
      (body-is cs calls agree F body n (walked cs test n S)) (arms-is cs calls agree F rest n (body_walked cs body n (walked cs test n S))))

  cases-is : {m : _} (cs : List Depth) (calls : Depths) → Agrees cs calls → (F : List ℕ) (row : Row_of-Case m) (n : ℕ) (S : Depth) → Gains F S n (cases_depth calls F row) (cases_walked cs row n S)
  cases-is cs calls agree F end_of-Case n S = touch-is F n S
  cases-is cs calls agree F (more_of-Case labels _ body rest) n S =
      both F n (labels_depth calls F labels) (max (body_depth calls F body) (cases_depth calls F rest)) S (labels_walked cs labels n S) (cases_walked cs rest n (body_walked cs body n (labels_walked cs labels n S)))
      (labels-is cs calls agree F labels n S)
      (both F n (body_depth calls F body) (cases_depth calls F rest) (labels_walked cs labels n S) (body_walked cs body n (labels_walked cs labels n S)) (cases_walked cs rest n (body_walked cs body n (labels_walked cs labels n S)))
      (body-is cs calls agree F body n (labels_walked cs labels n S)) (cases-is cs calls agree F rest n (body_walked cs body n (labels_walked cs labels n S))))
