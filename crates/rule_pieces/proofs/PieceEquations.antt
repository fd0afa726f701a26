-- Demands as pieces, in terms of the parts that code reads.
use Rattle.std.proofs.Common.{◌≡◌, ℕ, zero, suc, ◌+◌, ◌<◌, ◌≤◌, List, [], ◌∷◌, ◌++◌, map, drop, length, get_or, Some, refl, sym, ap, ◌∙◌, arith, append_assoc, append-nil}
use Rattle.std.specs.Prelude.{slice_get}
use denote.Hole.Carrier.{hidden}
use Rattle.term_core.specs.declared.term.Term as t
use Rattle.term_core.specs.declared.term.Term.{Term}
use Rattle.term_core.specs.declared.machine.Piece.{Piece}
use Rattle.term_core.specs.Substitution.{lifted}
use Rattle.rule_inline.specs.Demands.{Demand, demand, negated, piece_of, one_under, one_unless, one_binding}
use Rattle.rule_terms.specs.declared.demand.Demands as d
use Rattle.rule_terms.specs.declared.demand.Demands.{Demands, the_lemmas}
use Rattle.rule_terms.specs.declared.demand.Demands.TheBlock.{shape-the_row-Demands-0, hidden-the_row-Demands-0}
use Rattle.rule_terms.specs.Gathered.{seen_demands}
use Rattle.rule_pieces.specs.declared.piece.Around.{Around}
use Rattle.rule_pieces.specs.declared.piece.Around.TheVariants as held
use Rattle.rule_pieces.specs.Around.{wrap, wrapped, around_all, binders_in, but_last, test_of, tests_in, left_of, lefts_in}
use Rattle.rule_pieces.proofs.ListLemmas.{mapped_joined, after_after, nothing_after, drop_at, drop_end, drop_more}

-- what stands around, one by one

pub tests_at : (around : List Around) (i : ℕ) (a : Around) → slice_get around i ≡ Some a → tests_in (drop i around) ≡ test_of (binders_in (drop (i + 1) around)) a ++ tests_in (drop (i + 1) around)
tests_at around i a e = ap tests_in (drop_at around i a e)

pub tests_end : (around : List Around) (i : ℕ) → length around ≤ i → tests_in (drop i around) ≡ []
tests_end around i e = ap tests_in (drop_end around i e)

pub negated_joined : (xs ys : List Term) → negated (xs ++ ys) ≡ negated xs ++ negated ys
negated_joined [] ys = refl
negated_joined (x ∷ xs) ys = ap (λ zs. t.Not x ∷ zs) (negated_joined xs ys)

pub lefts_at : (around : List Around) (i : ℕ) (a : Around) → slice_get around i ≡ Some a → negated (lefts_in (drop i around)) ≡ negated (left_of (binders_in (drop (i + 1) around)) a) ++ negated (lefts_in (drop (i + 1) around))
lefts_at around i a e = ap (λ bs. negated (lefts_in bs)) (drop_at around i a e) ∙ negated_joined (left_of (binders_in (drop (i + 1) around)) a) (lefts_in (drop (i + 1) around))

pub lefts_end : (around : List Around) (i : ℕ) → length around ≤ i → negated (lefts_in (drop i around)) ≡ []
lefts_end around i e = ap (λ bs. negated (lefts_in bs)) (drop_end around i e)

-- what one of them adds, once it is known which it is

pub test-Bound : (inner : ℕ) (a : Around) → a ≡ held.Bound → test_of inner a ≡ []
test-Bound inner a e = ap (test_of inner) e

pub test-Under : (inner frame : ℕ) (test : Term) (a : Around) → a ≡ held.Under frame test → test_of inner a ≡ lifted frame inner test ∷ []
test-Under inner frame test a e = ap (test_of inner) e

pub test-Unless : (inner frame : ℕ) (left : Term) (a : Around) → a ≡ held.Unless frame left → test_of inner a ≡ []
test-Unless inner frame left a e = ap (test_of inner) e

pub left-Bound : (inner : ℕ) (a : Around) → a ≡ held.Bound → negated (left_of inner a) ≡ []
left-Bound inner a e = ap (λ b. negated (left_of inner b)) e

pub left-Under : (inner frame : ℕ) (test : Term) (a : Around) → a ≡ held.Under frame test → negated (left_of inner a) ≡ []
left-Under inner frame test a e = ap (λ b. negated (left_of inner b)) e

pub left-Unless : (inner frame : ℕ) (left : Term) (a : Around) → a ≡ held.Unless frame left → negated (left_of inner a) ≡ t.Not (lifted frame inner left) ∷ []
left-Unless inner frame left a e = ap (λ b. negated (left_of inner b)) e

-- one more of a list, as a loop has it

pub binders-Bound : (around : List Around) (i : ℕ) (a : Around) → i < length around → a ≡ get_or around i a → a ≡ held.Bound → binders_in (drop i around) ≡ 1 + binders_in (drop (i + 1) around)
binders-Bound around i a less is e =
    let h : suc (binders_in (drop (i + 1) around)) ≡ 1 + binders_in (drop (i + 1) around) = omega arith in
    ap binders_in (drop_more around i a less is ∙ ap (λ b. b ∷ drop (i + 1) around) e) ∙ h

pub binders-Under : (around : List Around) (i frame : ℕ) (test : Term) (a : Around) → i < length around → a ≡ get_or around i a → a ≡ held.Under frame test → binders_in (drop i around) ≡ binders_in (drop (i + 1) around)
binders-Under around i frame test a less is e = ap binders_in (drop_more around i a less is ∙ ap (λ b. b ∷ drop (i + 1) around) e)

pub binders-Unless : (around : List Around) (i frame : ℕ) (left : Term) (a : Around) → i < length around → a ≡ get_or around i a → a ≡ held.Unless frame left → binders_in (drop i around) ≡ binders_in (drop (i + 1) around)
binders-Unless around i frame left a less is e = ap binders_in (drop_more around i a less is ∙ ap (λ b. b ∷ drop (i + 1) around) e)

pub binders-end : (around : List Around) (i : ℕ) → length around ≤ i → binders_in (drop i around) ≡ 0
binders-end around i e = ap binders_in (drop_end around i e)

-- one more of the tests, and of the terms that say that a `return` was met
pub tests_step : (around : List Around) (i : ℕ) (a : Around) (rest : List Around) (out new whole : List Term) → i < length around → a ≡ get_or around i a → rest ≡ drop (i + 1) around → new ≡ out ++ test_of (binders_in rest) a → out ++ tests_in (drop i around) ≡ whole → new ++ tests_in (drop (i + 1) around) ≡ whole
tests_step around i a rest out new whole less is hr hn inv =
    ap (λ ts. ts ++ tests_in (drop (i + 1) around)) (hn ∙ ap (λ bs. out ++ test_of (binders_in bs) a) hr)
    ∙ after_after out (test_of (binders_in (drop (i + 1) around)) a) (tests_in (drop (i + 1) around))
    ∙ sym (ap (λ bs. out ++ tests_in bs) (drop_more around i a less is))
    ∙ inv

pub lefts_step : (around : List Around) (i : ℕ) (a : Around) (rest : List Around) (out new whole : List Term) → i < length around → a ≡ get_or around i a → rest ≡ drop (i + 1) around → new ≡ out ++ negated (left_of (binders_in rest) a) → out ++ negated (lefts_in (drop i around)) ≡ whole → new ++ negated (lefts_in (drop (i + 1) around)) ≡ whole
lefts_step around i a rest out new whole less is hr hn inv =
    ap (λ ts. ts ++ negated (lefts_in (drop (i + 1) around))) (hn ∙ ap (λ bs. out ++ negated (left_of (binders_in bs) a)) hr)
    ∙ after_after out (negated (left_of (binders_in (drop (i + 1) around)) a)) (negated (lefts_in (drop (i + 1) around)))
    ∙ sym (ap (λ ts. out ++ ts) (ap (λ bs. negated (lefts_in bs)) (drop_more around i a less is) ∙ negated_joined (left_of (binders_in (drop (i + 1) around)) a) (lefts_in (drop (i + 1) around))))
    ∙ inv

-- one demand

wrapped_is : (around : List Around) (must : Term) → wrapped around (demand must) ≡ record { binders = binders_in around; tests = tests_in around; lefts = lefts_in around; must = must }
wrapped_is [] must = refl
wrapped_is (held.Bound ∷ around) must = ap one_binding (wrapped_is around must)
wrapped_is (held.Under frame test ∷ around) must = ap (one_under frame test) (wrapped_is around must)
wrapped_is (held.Unless frame left ∷ around) must = ap (one_unless frame left) (wrapped_is around must)

pub one_piece : (around : List Around) (must : Term) → piece_of (wrapped around (demand must)) ≡ record { binders = binders_in around; body = t.Or (t.Not (t.And (tests_in around ++ negated (lefts_in around))) ∷ must ∷ []) }
one_piece around must = ap piece_of (wrapped_is around must)

-- all demands

wrapped_last : (around : List Around) (a : Around) (q : Demand) → wrapped (around ++ a ∷ []) q ≡ wrapped around (wrap a q)
wrapped_last [] a q = refl
wrapped_last (b ∷ around) a q = ap (wrap b) (wrapped_last around a q)

pub around_last : (around : List Around) (a : Around) (qs : List Demand) → around_all (around ++ a ∷ []) qs ≡ around_all around (map (wrap a) qs)
around_last around a [] = refl
around_last around a (q ∷ qs) = ap (λ y. y ∷ around_all (around ++ a ∷ []) qs) (wrapped_last around a q) ∙ ap (λ ys. wrapped around (wrap a q) ∷ ys) (around_last around a qs)

pub wrap-Bound : (qs : List Demand) → map (wrap held.Bound) qs ≡ map one_binding qs
wrap-Bound [] = refl
wrap-Bound (q ∷ qs) = ap (λ ys. one_binding q ∷ ys) (wrap-Bound qs)

pub wrap-Under : (frame : ℕ) (test : Term) (qs : List Demand) → map (wrap (held.Under frame test)) qs ≡ map (one_under frame test) qs
wrap-Under frame test [] = refl
wrap-Under frame test (q ∷ qs) = ap (λ ys. one_under frame test q ∷ ys) (wrap-Under frame test qs)

pub wrap-Unless : (frame : ℕ) (left : Term) (qs : List Demand) → map (wrap (held.Unless frame left)) qs ≡ map (one_unless frame left) qs
wrap-Unless frame left [] = refl
wrap-Unless frame left (q ∷ qs) = ap (λ ys. one_unless frame left q ∷ ys) (wrap-Unless frame left qs)

pub but_last-more : (around : List Around) (a : Around) → but_last (around ++ a ∷ []) ≡ around
but_last-more [] a = refl
but_last-more (b ∷ []) a = refl
but_last-more (b ∷ c ∷ around) a = ap (λ xs. b ∷ xs) (but_last-more (c ∷ around) a)

-- what was around is around again
pub left_again : (before new : List Around) (a : Around) → new ≡ but_last (before ++ a ∷ []) → new ≡ before
left_again before new a e = e ∙ but_last-more before a

-- demands, form by form

pub seen-Nothing : seen_demands d.Nothing ≡ []
unfolding seen_demands
seen-Nothing = refl

pub seen-One : (must : Term) → seen_demands (d.One must) ≡ demand must ∷ []
unfolding seen_demands
seen-One must = refl

pub seen-Both : (a b : Demands) → seen_demands (d.Both a b) ≡ seen_demands a ++ seen_demands b
unfolding seen_demands shape-the_row-Demands-0 hidden-the_row-Demands-0 hidden
seen-Both a b = refl

pub seen-Under : (frame : ℕ) (test : Term) (a : Demands) → seen_demands (d.Under frame test a) ≡ map (wrap (held.Under frame test)) (seen_demands a)
unfolding seen_demands shape-the_row-Demands-0 hidden-the_row-Demands-0 hidden
seen-Under frame test a = sym (wrap-Under frame test (seen_demands a))

pub seen-Unless : (frame : ℕ) (left : Term) (a : Demands) → seen_demands (d.Unless frame left a) ≡ map (wrap (held.Unless frame left)) (seen_demands a)
unfolding seen_demands shape-the_row-Demands-0 hidden-the_row-Demands-0 hidden
seen-Unless frame left a = sym (wrap-Unless frame left (seen_demands a))

pub seen-Binding : (a : Demands) → seen_demands (d.Binding a) ≡ map (wrap held.Bound) (seen_demands a)
unfolding seen_demands shape-the_row-Demands-0 hidden-the_row-Demands-0 hidden
seen-Binding a = sym (wrap-Bound (seen_demands a))

pub ruleset pieces = (mapped_joined, after_after, nothing_after, tests_at, tests_end, lefts_at, lefts_end, test-Bound, test-Under, test-Unless, left-Bound, left-Under, left-Unless, binders-Bound, binders-Under, binders-Unless, binders-end, one_piece, around_last, but_last-more, seen-Nothing, seen-One, seen-Both, seen-Under, seen-Unless, seen-Binding, the_lemmas)
