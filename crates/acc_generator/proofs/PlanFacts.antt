-- A generated document is accepted, and says its plan.
use Rattle.std.proofs.Common.{◌≡◌, ℕ, ◌≤◌, [], ◌∷◌, codes, None, refl, sym, ap, arith, map}
use Rattle.serde_json.specs.Data.{string}
use Rattle.serde_json.specs.Find.{get}
use Rattle.acc_base.proofs.Faults.{both_none}
use Rattle.acc_topology.specs.Layout.{Layout}
use Rattle.acc_topology.specs.Sets.{is_among, numbers as set_numbers}
use Rattle.acc_schedule.specs.declared.plan.Print.TheVariants.{Summary}
use Rattle.acc_schedule.specs.Document.{base_fault, cast_of, document_fault, fields_fault, is_node_of, layout_of, Means, plan_of, print_fault, Root, root_fault, root_of, version_fault}
use Rattle.acc_schedule.specs.Nodes.{nodes_of}
use Rattle.acc_schedule.specs.Steps.{schedule_fault}
use Rattle.acc_schedule.specs.Transactions.{transactions_fault}
use Rattle.acc_generator.specs.Document.{document, document_text, list, name_of, nodes, numbers, schedule, shards, whole}
use Rattle.acc_generator.specs.Plan.{cluster, plan, start}
use Rattle.acc_generator.proofs.DocumentFacts.{document_written}
use Rattle.acc_generator.proofs.RuleFacts.{all_transactions, bodies_are, homes_are, names_are, schedule_kept, steps_are, transactions_kept}
use Rattle.acc_generator.proofs.Written.{read_with_feed, utf8_with_feed}

module _ (seed count : ℕ) (few : count ≤ 2000) where
  abbrev root : Root
  root = record {
    version = whole 1;
    nodes = nodes;
    shards = shards;
    txns = all_transactions seed count;
    schedule = list (schedule count);
    print = string (codes "summary");
  }

  root_is : root_of (document seed count) (get (codes "print") (document seed count)) ≡ root
  root_is = refl

  layout_is : layout_of root ≡ cluster
  unfolding nodes shards set_numbers
  layout_is = refl

  starts_are : nodes_of nodes ≡ start 1 ∷ start 2 ∷ start 3 ∷ []
  unfolding nodes
  starts_are = refl

  root_kept : root_fault (document seed count) ≡ None
  root_kept = refl

  base_kept : base_fault root ≡ None
  unfolding nodes shards
  base_kept = refl

  names_in_cast : (cast_of root).names ≡ map name_of (numbers count)
  names_in_cast = names_are seed count

  fields_kept : fields_fault root ≡ None
  fields_kept =
      both_none _ (print_fault root.print)
      (both_none _ (schedule_fault (cast_of root) root.schedule)
      (both_none _ (transactions_fault 1 (is_node_of root) root.txns)
      (both_none (version_fault root.version) (base_fault root) refl base_kept)
      (transactions_kept seed count few (is_node_of root) (λ n. ap (λ (l : Layout). is_among l.nodes n) layout_is)))
      (schedule_kept (cast_of root) count few names_in_cast))
      refl

  document_kept : document_fault (document seed count) ≡ None
  document_kept = both_none (root_fault (document seed count)) (fields_fault root) root_kept fields_kept

  plan_is : plan_of (document seed count) ≡ plan seed count
  plan_is = λ i. record {
    version = 1;
    topology = layout_is i;
    starts = starts_are i;
    names = names_are seed count i;
    homes = homes_are seed count i;
    bodies = bodies_are seed count i;
    steps = steps_are (cast_of root) count few names_in_cast i;
    print = Summary;
  }

  pub document_means : Means (document_text seed count) (plan seed count)
  document_means =
      let written = document_written seed count (omega arith) in
      record {
        utf8 = utf8_with_feed 4 (document seed count) written;
        json = document seed count;
        reads = read_with_feed 4 (document seed count) (omega arith) written;
        keeps_rules = document_kept;
        says = sym plan_is;
      }
