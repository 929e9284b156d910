mod ArrivalLaws
