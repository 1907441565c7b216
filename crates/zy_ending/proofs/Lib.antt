mod WayLemmas
