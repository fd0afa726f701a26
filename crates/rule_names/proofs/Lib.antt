mod NameEquations
