-- The elements whose indices are open, innermost first.
use Rattle.std.specs.Prelude.{List, [], ◌∷◌, ◌++◌}
use Rattle.dg_words.specs.Piece.{Piece, Element}
use Rattle.dg_lists.specs.declared.kinds.Context.{Context}
use Rattle.dg_words.specs.declared.draft.Frame.{Frame}

-- where they stand
abbrev pub contexts : List Frame → List Context
contexts [] = []
contexts (f ∷ fs) = f.context ∷ contexts fs

-- the pieces before their indices
abbrev pub pieces : List Frame → List Piece
pieces [] = []
pieces (f ∷ fs) = pieces fs ++ f.before ++ Element f.name ∷ []
