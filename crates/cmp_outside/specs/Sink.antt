-- What the answers of `Sink::write` say. The clauses of the trait are made of these words.
use Rattle.std.specs.Prelude.{◌≡◌, ℕ, List, [], ◌++◌, Option, None, Some, refl}
use Rattle.std.proofs.Common.{◌∙◌, ap, sym, append_assoc, append-nil}

-- what is told as written once these bytes have followed: of a sink that tells nothing, nothing
abbrev pub appended : Option (List ℕ) → List ℕ → Option (List ℕ)
appended None bytes = None
appended (Some before) bytes = Some (before ++ bytes)

-- nothing more leaves what is told as it is
pub appended-nil : (told : Option (List ℕ)) → appended told [] ≡ told
appended-nil None = refl
appended-nil (Some before) = ap Some (append-nil before)

-- one piece and then another are the two joined
pub appended-append : (told : Option (List ℕ)) (a b : List ℕ) →
    appended (appended told a) b ≡ appended told (a ++ b)
appended-append None a b = refl
appended-append (Some before) a b = ap Some (append_assoc before a b)

-- between the two, just these bytes were written
abbrev pub Gains : Option (List ℕ) → Option (List ℕ) → List ℕ → Type 0
Gains old new bytes = new ≡ appended old bytes

-- between the two, a prefix of these bytes was written
pub record GainsPrefix (old new : Option (List ℕ)) (bytes : List ℕ) : Type 0 where
  pub front : List ℕ
  pub back : List ℕ
  pub split : bytes ≡ front ++ back
  pub gained : Gains old new front

-- Laws for whoever writes several pieces.

-- one piece and then another are the two joined
pub gains_both : (old mid new : Option (List ℕ)) (a b : List ℕ) →
    Gains old mid a → Gains mid new b → Gains old new (a ++ b)
gains_both old mid new a b p q = q ∙ ap (λ o. appended o b) p ∙ appended-append old a b

-- nothing written is a prefix of any bytes
pub nothing_gained : (told : Option (List ℕ)) (bytes : List ℕ) → GainsPrefix told told bytes
nothing_gained told bytes =
    record { front = []; back = bytes; split = refl; gained = sym (appended-nil told) }

-- a whole piece is a prefix of itself with more after it
pub prefix_whole : (old new : Option (List ℕ)) (a b : List ℕ) →
    Gains old new a → GainsPrefix old new (a ++ b)
prefix_whole old new a b p = record { front = a; back = b; split = refl; gained = p }

-- a prefix is one with more after it too
pub prefix_first : (old new : Option (List ℕ)) (a b : List ℕ) →
    GainsPrefix old new a → GainsPrefix old new (a ++ b)
prefix_first old new a b p = record {
  front = p.front;
  back = p.back ++ b;
  split = ap (λ x. x ++ b) p.split ∙ append_assoc p.front p.back b;
  gained = p.gained;
}

-- a whole piece and then a prefix of another
pub prefix_second : (old mid new : Option (List ℕ)) (a b : List ℕ) →
    Gains old mid a → GainsPrefix mid new b → GainsPrefix old new (a ++ b)
prefix_second old mid new a b p q = record {
  front = a ++ q.front;
  back = q.back;
  split = ap (λ x. a ++ x) q.split ∙ sym (append_assoc a q.front q.back);
  gained = gains_both old mid new a q.front p q.gained;
}

pub ruleset gains = (gains_both, nothing_gained, prefix_whole, prefix_first, prefix_second)
