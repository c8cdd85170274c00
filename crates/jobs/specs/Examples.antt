-- Worked cases of the definitions, computed: two links in a line.
use Rattle.std.specs.Prelude.{◌≡◌, ℕ, refl, codes, [], ◌∷◌, ◌++◌, List}
use Rattle.desk_io.specs.declared.desk.Table.{Table}
use Rattle.desk_io.specs.declared.desk.Table.TheVariants as table
use Rattle.row_reader.specs.declared.faults.Code.TheVariants as code
use Rattle.row_reader.specs.declared.faults.Column.TheVariants as column
use Rattle.gmns_tables.specs.OnLiterals.{networks_on_literals}
use Rattle.reports.specs.declared.refusal.Refusal.TheVariants as refusal
use Rattle.jobs.specs.Verdict.{Refused, verdict}

abbrev tables : List ℕ → List ℕ → List ℕ → List ℕ → Table → List ℕ
tables node link movement demand table.Node = node
tables node link movement demand table.Link = link
tables node link movement demand table.Movement = movement
tables node link movement demand table.Demand = demand
tables node link movement demand table.Start = []
tables node link movement demand table.Times = []

abbrev three_nodes : List ℕ
three_nodes = codes "node_id,zone_id\n1,1\n2,\n3,3\n"

abbrev two_links : List ℕ
two_links =
    codes "link_id,from_node_id,to_node_id,length,lanes,free_speed,capacity\n"
    ++ codes "10,1,2,1000,1,60,600\n20,2,3,1000,1,60,600\n"

-- words are judged before any table
no-words : verdict [] (tables [] [] [] []) ≡ Refused refusal.Usage
no-words = refl

an-option-of-another-command :
    verdict (codes "freeflow" ∷ codes "--horizon" ∷ codes "5" ∷ []) (tables [] [] [] [])
    ≡ Refused refusal.Usage
an-option-of-another-command = refl

-- a fault of the node table is told before one of the link table
nodes-first :
    verdict (codes "freeflow" ∷ []) (tables (codes "node_id\n1\n1\n") (codes "link_id\n") [] [])
    ≡ Refused (refusal.Table (record {
      table = table.Node;
      line = 3;
      code = code.E6;
      column = column.NodeId;
    }))
unfolding networks_on_literals
nodes-first = refl

-- and one of the movement table before one of the demand table
movements-third :
    verdict (codes "assign" ∷ []) (tables three_nodes two_links
    (codes "mvmt_id,node_id,ib_link_id,ob_link_id\n1,2,20,20\n") [])
    ≡ Refused (refusal.Table (record {
      table = table.Movement;
      line = 2;
      code = code.E9;
      column = column.IbLinkId;
    }))
unfolding networks_on_literals
movements-third = refl
