-- What a node has besides its pages and locks.
use Rattle.std.specs.Prelude.{ℕ, List, ◌++◌, codes}
use Rattle.std.specs.Fmt.{decimal}
use Rattle.std.specs.List.{flat_map}
use Rattle.zy_isa.specs.declared.node.Node.{Node}
use Rattle.zy_text.specs.Canon.{node_text}
use Rattle.zy_table.specs.State.{NodeState}
use Rattle.zy_listing.specs.Texts.{mode_word}

abbrev pub number_text : ℕ → List ℕ
number_text n = codes " " ++ decimal n

abbrev pub numbers_text : List ℕ → List ℕ
numbers_text ns = flat_map number_text ns

-- node n with its mode, the low key of each page by number, and the numbers of the pages that it has asked for
abbrev pub node_reply : Node → NodeState → List ℕ
node_reply n x =
    codes "node "
    ++ (node_text n
    ++ (codes " " ++ (mode_word x.mode ++ (codes " lows" ++ (numbers_text x.lows ++ (codes " asked" ++ numbers_text x.asked))))))
